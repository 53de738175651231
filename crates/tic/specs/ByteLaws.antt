-- The laws of texts of one kind of byte: of two joined, and of a run of one byte. Assumes nothing.
use Rattle.std.specs.Prelude.{◌≡◌, refl, Bool, true, false, List, [], ◌++◌, ℕ, ◌+◌, ◌-◌, ◌≤◌, ◌<◌, length, get_or, take, drop, replicate, ltb}
use Rattle.std.proofs.Common.{sym, ap, ◌∙◌, arith, length-take, length-drop, length-append, get_or-append-add, get_or-take, get_or-drop, ext_get_or, eqb-true, eq-eqb, ltb-true, ltb-false}
use Rattle.std.proofs.lemmas.List.{length-replicate, get_or-replicate}
use Rattle.std.proofs.Math.ListN.{get_or-append}
use Rattle.lines.specs.BelowLaws.{all_at, all_each}
use Rattle.lines.specs.Class.{is_of, byte_is, all_bytes, all_of}
use Rattle.lines.specs.declared.class.Class.TheVariants.{Only}

-- ---- what p names
module _ (p : ℕ → Bool) where
  pub bytes_at : (s : List ℕ) → all_bytes p s ≡ true → (i : ℕ) → i < length s → p (get_or s i 0) ≡ true
  unfolding all_bytes byte_is
  bytes_at s e i h = all_at (byte_is p s) (length s) e i h

  pub bytes_each : (s : List ℕ) → ((i : ℕ) → i < length s → p (get_or s i 0) ≡ true) → all_bytes p s ≡ true
  unfolding all_bytes byte_is
  bytes_each s each = all_each (byte_is p s) (length s) each

  pub bytes_append : (s t : List ℕ) → all_bytes p s ≡ true → all_bytes p t ≡ true → all_bytes p (s ++ t) ≡ true
  bytes_append s t a b = bytes_each (s ++ t) (λ i h. go i h (ltb i (length s)) refl)
    where
      go : (i : ℕ) → i < length (s ++ t) → (c : Bool) → ltb i (length s) ≡ c → p (get_or (s ++ t) i 0) ≡ true
      go i h true e = ap p (get_or-append s t 0 i (ltb-true i (length s) e)) ∙ bytes_at s a i (ltb-true i (length s) e)
      go i h false e =
          let n : length s ≤ i = ltb-false i (length s) e in
          let k : i ≡ length s + (i - length s) = omega arith in
          ap (λ (m : ℕ). p (get_or (s ++ t) m 0)) k
          ∙ ap p (get_or-append-add s t (i - length s) 0)
          ∙ bytes_at t b (i - length s) (omega (arith, length-append s t))

  pub bytes_none : all_bytes p [] ≡ true
  bytes_none = bytes_each [] (λ i h. absurd (omega arith))

  pub bytes_run : (n b : ℕ) → p b ≡ true → all_bytes p (replicate n b) ≡ true
  bytes_run n b e = bytes_each (replicate n b) (λ i h. ap p (get_or-replicate n i b 0 (omega (arith, length-replicate n b))) ∙ e)

-- so is a part of it
pub bytes_part : (p : ℕ → Bool) (s : List ℕ) (i n : ℕ) → all_bytes p s ≡ true → all_bytes p (take n (drop i s)) ≡ true
bytes_part p s i n e =
    bytes_each p (take n (drop i s))
    (λ j h.
    let inside : j < n = omega (arith, length-take n (drop i s)) in
    let within : i + j < length s = omega (arith, length-take n (drop i s), length-drop i s) in
    ap p (get_or-take n (drop i s) j 0 inside ∙ get_or-drop i s j 0) ∙ bytes_at p s e (i + j) within)

pub bytes_weaken : (p q : ℕ → Bool) → ((b : ℕ) → p b ≡ true → q b ≡ true) → (s : List ℕ) → all_bytes p s ≡ true → all_bytes q s ≡ true
bytes_weaken p q w s e = bytes_each q s (λ i h. w (get_or s i 0) (bytes_at p s e i h))

-- ---- a run of one byte
pub only_is : (b : ℕ) (s : List ℕ) → all_of (Only b) s ≡ true → s ≡ replicate (length s) b
unfolding all_of is_of
only_is b s e =
    ext_get_or 0 s (replicate (length s) b) (sym (length-replicate (length s) b))
    (λ i h. eqb-true (get_or s i 0) b (bytes_at (is_of (Only b)) s e i h) ∙ sym (get_or-replicate (length s) i b 0 h))

pub only_run : (b n : ℕ) → all_of (Only b) (replicate n b) ≡ true
unfolding all_of is_of
only_run b n = bytes_run (is_of (Only b)) n b (eq-eqb b b refl)
