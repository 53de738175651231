-- What the tests of a plate and its nation give, one after the other. Assumes nothing.
use Rattle.std.specs.Prelude.{◌≡◌, Bool, true, false, not, List, ℕ, ◌<◌, length, get_or, take, drop, eqb, ltb}
use Rattle.std.proofs.Math.Path.{refl}
use Rattle.std.proofs.Common.{sym, ◌∙◌, arith}
use Rattle.std.proofs.lemmas.Bool.{false≢true}
use borrow.Author.Tests.{eq-eqb, ne_eqb, le-ltb, ltb-false}
use Rattle.lines.specs.Below.{first_below}
use Rattle.lines.specs.BelowLaws.{some_zero, first_hit, first_found}
use Rattle.lines.specs.Class.{is_of, byte_is, all_of, place_of, filled_to, padded_with}
use Rattle.lines.specs.ClassLaws.{place_le}
use Rattle.lines.specs.declared.class.Class.{Class}
use Rattle.lines.specs.declared.class.Class.TheVariants.{Capital, Only}
use Rattle.plate.specs.Plate.{all_plate_bytes, padded_plate, is_filled, nation_class, two_of, plate_on_line, plate_in_book}

-- ---- the plate: the part before the blanks, then the rest
module _ (plate : List ℕ) where
  pub padded_other : all_plate_bytes (take (filled_to plate) plate) ≡ false → padded_plate plate ≡ false
  unfolding padded_plate padded_with all_plate_bytes
  padded_other e = rw e

  pub padded_rest : all_plate_bytes (take (filled_to plate) plate) ≡ true → padded_plate plate ≡ all_of (Only 32) (drop (filled_to plate) plate)
  unfolding padded_plate padded_with all_plate_bytes
  padded_rest e = rw e

  pub nation_blank : is_filled plate ≡ false → nation_class plate ≡ Only 32
  unfolding nation_class
  nation_blank e = rw e

  pub nation_filled : is_filled plate ≡ true → nation_class plate ≡ Capital
  unfolding nation_class
  nation_filled e = rw e

-- ---- filled: the first byte tells
module _ (plate : List ℕ) where
  abbrev blank : ℕ → Bool
  blank = byte_is (is_of (Only 32)) plate

  abbrev first_blank : ℕ
  first_blank = first_below (length plate) blank

  pub filled_nothing : length plate ≡ 0 → is_filled plate ≡ false
  unfolding is_filled
  filled_nothing e = le-ltb 0 (filled_to plate) (omega (arith, place_le (Only 32) plate))

  first_tells : 0 < length plate → (t : Bool) → blank 0 ≡ t → ltb 0 first_blank ≡ not t
  first_tells h true e = rw (first_hit blank (length plate) 0 h (some_zero _) e)
  first_tells h false e = go (ltb 0 first_blank) refl
    where
      go : (t : Bool) → ltb 0 first_blank ≡ t → t ≡ true
      go true f = refl
      go false f =
          let z : first_blank ≡ 0 = omega (arith, ltb-false 0 first_blank f) in
          absurd (false≢true (sym e ∙ rw z at (first_found blank (length plate) (omega arith))))

  pub filled_first : 0 < length plate → is_filled plate ≡ not (eqb (get_or plate 0 0) 32)
  unfolding is_filled place_of byte_is is_of
  filled_first h = first_tells h (eqb (get_or plate 0 0) 32) refl

-- ---- the nation
module _ (c : Class) (nation : List ℕ) where
  pub two_not : (length nation ≡ 2 → ⊥) → two_of c nation ≡ false
  unfolding two_of
  two_not n = rw (ne_eqb (length nation) 2 n)

  pub two_rest : length nation ≡ 2 → two_of c nation ≡ all_of c nation
  unfolding two_of
  two_rest e = rw (eq-eqb (length nation) 2 e)

-- ---- both
module _ (plate nation : List ℕ) where
  pub line_not : padded_plate plate ≡ false → plate_on_line plate nation ≡ false
  unfolding plate_on_line
  line_not e = rw e

  pub line_rest : padded_plate plate ≡ true → plate_on_line plate nation ≡ two_of (nation_class plate) nation
  unfolding plate_on_line
  line_rest e = rw e

  pub book_not : padded_plate plate ≡ false → plate_in_book plate nation ≡ false
  unfolding plate_in_book
  book_not e = rw e

  pub book_blank : padded_plate plate ≡ true → is_filled plate ≡ false → plate_in_book plate nation ≡ false
  unfolding plate_in_book
  book_blank e f = rw (e, f)

  pub book_rest : padded_plate plate ≡ true → is_filled plate ≡ true → plate_in_book plate nation ≡ two_of Capital nation
  unfolding plate_in_book
  book_rest e f = rw (e, f)
