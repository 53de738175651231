-- The paper's words for a plate, and that `padded_plate` and `is_filled` say just that. Assumes nothing.
use Rattle.std.specs.Prelude.{◌≡◌, ◌⊎◌, Bool, List, take, drop}
use Rattle.std.proofs.Math.Path.{refl, sym, ap}
use Rattle.std.proofs.Common.{◌∙◌, inl, inr, true≢false, get_or-take, get_or-drop}
use Rattle.std.proofs.Math.Logic.{⊎_elim}
use Rattle.std.proofs.Math.Bool.{true, false, not, false≢true}
use Prim.Native.Nat.{ℕ, zero, suc, ◌+◌, ◌-◌, ◌≤◌, ◌<◌}
use native.Mathlib.Omega.{arith}
use Rattle.std.proofs.Math.ListN.{length, get_or, length-drop}
use Rattle.std.proofs.Math.Seq.{length-take-le}
use Rattle.std.proofs.Math.Dec.{eqb, ltb}
use borrow.Author.Tests.{eqb-true, eq-eqb, ltb-true, ltb-false, lt-ltb}
use Rattle.lines.specs.BelowLaws.{all_at, all_each, some_zero, first_before, first_hit, first_found}
use Rattle.lines.specs.BoolLaws.{and_true, and_left, and_right}
use Rattle.lines.specs.Class.{is_digit, is_capital, is_of, byte_is, all_bytes, all_of, place_of, filled_to, padded_with}
use Rattle.lines.specs.ClassLaws.{place_le, all_of_at}
use Rattle.lines.specs.Columns.{col}
use Rattle.lines.specs.declared.class.Class.TheVariants.{Only}
use Rattle.plate.specs.Set.{is_plate_byte, is_small, is_marked_letter}
use Rattle.plate.specs.Plate.{padded_plate, is_filled}

-- each byte is blank or in the plate set, and after a blank all is blank
pub record PlateWords (plate : List ℕ) : Type 0 where
  pub known : (i : ℕ) → i < length plate → (is_plate_byte (get_or plate i 0) ≡ true) ⊎ (get_or plate i 0 ≡ 32)
  pub closed : (i j : ℕ) → i < j → j < length plate → get_or plate i 0 ≡ 32 → get_or plate j 0 ≡ 32

-- a blank is not in the set
no_blank : is_plate_byte 32 ≡ false
unfolding is_plate_byte is_digit is_capital is_small is_marked_letter
no_blank = refl

module _ (plate : List ℕ) where
  -- ---- from the definition to the words
  front : padded_plate plate ≡ true → (i : ℕ) → i < filled_to plate → is_plate_byte (get_or plate i 0) ≡ true
  unfolding padded_plate padded_with all_bytes byte_is
  front e i h =
      let k = filled_to plate in
      let l : length (take k plate) ≡ k = length-take-le k plate (place_le (Only 32) plate) in
      let t = and_left (all_bytes is_plate_byte (take k plate)) (all_of (Only 32) (drop k plate)) e in
      ap is_plate_byte (sym (get_or-take k plate i 0 h)) ∙ all_at (byte_is is_plate_byte (take k plate)) (length (take k plate)) t i (rw l h)

  back : padded_plate plate ≡ true → (i : ℕ) → filled_to plate ≤ i → i < length plate → get_or plate i 0 ≡ 32
  unfolding padded_plate padded_with is_of
  back e i h l =
      let k = filled_to plate in
      let t = and_right (all_bytes is_plate_byte (take k plate)) (all_of (Only 32) (drop k plate)) e in
      let at : k + (i - k) ≡ i = omega arith in
      ap (λ (n : ℕ). get_or plate n 0) (sym at)
      ∙ sym (get_or-drop k plate (i - k) 0)
      ∙ eqb-true (get_or (drop k plate) (i - k) 0) 32 (all_of_at (Only 32) (drop k plate) t (i - k) (omega (arith, length-drop k plate)))

  pub padded_words : padded_plate plate ≡ true → PlateWords plate
  padded_words e =
      record {
        known = λ i h. side i h (ltb i (filled_to plate)) refl;
        closed = λ i j h l b. after i j h l b (ltb i (filled_to plate)) refl;
      }
    where
      side : (i : ℕ) → i < length plate → (t : Bool) → ltb i (filled_to plate) ≡ t → (is_plate_byte (get_or plate i 0) ≡ true) ⊎ (get_or plate i 0 ≡ 32)
      side i h true q = inl (front e i (ltb-true i (filled_to plate) q))
      side i h false q = inr (back e i (ltb-false i (filled_to plate) q) h)

      after : (i j : ℕ) → i < j → j < length plate → get_or plate i 0 ≡ 32 → (t : Bool) → ltb i (filled_to plate) ≡ t → get_or plate j 0 ≡ 32
      after i j h l b true q = absurd (true≢false (sym (front e i (ltb-true i (filled_to plate) q)) ∙ ap is_plate_byte b ∙ no_blank))
      after i j h l b false q = let f = ltb-false i (filled_to plate) q in back e j (omega arith) l

  -- ---- and back
  at_blank : filled_to plate < length plate → get_or plate (filled_to plate) 0 ≡ 32
  unfolding place_of byte_is is_of
  at_blank h = eqb-true (get_or plate (filled_to plate) 0) 32 (first_found (byte_is (is_of (Only 32)) plate) (length plate) h)

  not_blank : (i : ℕ) → i < filled_to plate → get_or plate i 0 ≡ 32 → ⊥
  unfolding place_of byte_is is_of
  not_blank i h b = false≢true (sym (first_before (byte_is (is_of (Only 32)) plate) (length plate) i h) ∙ eq-eqb (get_or plate i 0) 32 b)

  pub words_padded : PlateWords plate → padded_plate plate ≡ true
  unfolding padded_plate padded_with all_of all_bytes byte_is is_of
  words_padded w =
      let k = filled_to plate in
      let fits : k ≤ length plate = place_le (Only 32) plate in
      let l : length (take k plate) ≡ k = length-take-le k plate fits in
      and_true (all_bytes is_plate_byte (take k plate)) (all_of (Only 32) (drop k plate))
      (all_each (byte_is is_plate_byte (take k plate)) (length (take k plate))
      (λ i h.
      let near : i < k = omega arith in
      let in_plate : i < length plate = omega arith in
      ap is_plate_byte (get_or-take k plate i 0 near) ∙ ⊎_elim (λ t. t) (λ b. absurd (not_blank i near b)) (w.known i in_plate)))
      (all_each (byte_is (is_of (Only 32)) (drop k plate)) (length (drop k plate))
      (λ i h.
      let in_plate : k + i < length plate = omega (arith, length-drop k plate) in
      eq-eqb (get_or (drop k plate) i 0) 32 (get_or-drop k plate i 0 ∙ rest i in_plate)))
    where
      rest : (i : ℕ) → filled_to plate + i < length plate → get_or plate (filled_to plate + i) 0 ≡ 32
      rest zero h = let e : filled_to plate + 0 ≡ filled_to plate = omega arith in ap (λ (n : ℕ). get_or plate n 0) e ∙ at_blank (omega arith)
      rest (suc i) h = w.closed (filled_to plate) (filled_to plate + suc i) (omega arith) h (at_blank (omega arith))

  -- filled: the first byte is not blank
  pub filled_first : 0 < length plate → is_filled plate ≡ not (eqb (col 1 plate) 32)
  unfolding is_filled place_of byte_is is_of
  filled_first h = go (eqb (col 1 plate) 32) refl
    where
      go : (t : Bool) → eqb (col 1 plate) 32 ≡ t → ltb 0 (filled_to plate) ≡ not t
      go true e = rw (first_hit (byte_is (is_of (Only 32)) plate) (length plate) 0 h (some_zero (byte_is (is_of (Only 32)) plate)) e)
      go false e = from (filled_to plate) refl
        where
          from : (n : ℕ) → filled_to plate ≡ n → ltb 0 n ≡ true
          from zero q = absurd (true≢false (sym (eq-eqb (col 1 plate) 32 (ap (λ (m : ℕ). get_or plate m 0) (sym q) ∙ at_blank (omega arith))) ∙ e))
          from (suc n) q = lt-ltb 0 (suc n) (omega arith)
