-- The laws of character classes: how a byte is shown to be of one, and what it shows. Assumes nothing.
use Rattle.std.specs.Prelude.{◌≡◌, refl, Bool, true, false, ◌&&◌, List, ℕ, ◌+◌, ◌≤◌, ◌<◌, length, get_or, take, drop, eqb, leb, ltb}
use Rattle.std.proofs.Math.Path.{sym}
use Rattle.std.proofs.Common.{ap, ◌∙◌, arith, length-take, length-drop, get_or-take, get_or-drop, le-leb, leb-true, leb-false, lt-ltb, eq-eqb, ne_eqb}
use Rattle.std.proofs.lemmas.Bool.{lt-leb}
use Rattle.lines.specs.Below.{all_below, first_below}
use Rattle.lines.specs.BelowSame.{all_same, first_same}
use Rattle.lines.specs.BelowLaws.{all_at, all_each, first_le}
use Rattle.lines.specs.BoolLaws.{and_true, and_left, and_right, and_false_left, and_false_right}
use Rattle.lines.specs.Class.{is_digit, is_of, byte_is, all_bytes, all_of, place_of, filled_to, padded_with, filled_with}
use Rattle.lines.specs.declared.class.Class.{Class}
use Rattle.lines.specs.declared.class.Class.TheVariants.{Digit, Only}

-- a byte between two others, by the two tests of it
module _ (low high b : ℕ) where
  pub between_yes : low ≤ b → b ≤ high → (leb low b && leb b high) ≡ true
  between_yes h k = and_true (leb low b) (leb b high) (le-leb low b h) (le-leb b high k)

  pub between_low : b < low → (leb low b && leb b high) ≡ false
  between_low h = and_false_left (leb low b) (leb b high) (lt-leb low b h)

  pub between_is : (leb low b && leb b high) ≡ true → (low ≤ b) × (b ≤ high)
  between_is e = (leb-true low b (and_left (leb low b) (leb b high) e), leb-true b high (and_right (leb low b) (leb b high) e))

  -- the second test alone, once the first is passed
  pub between_rest : low ≤ b → (leb low b && leb b high) ≡ leb b high
  between_rest h = rw (le-leb low b h)

-- a range of one byte
pub between_only : (x b : ℕ) → (leb x b && leb b x) ≡ eqb b x
between_only x b = go (leb x b) refl (leb b x) refl
  where
    go : (t : Bool) → leb x b ≡ t → (u : Bool) → leb b x ≡ u → (t && u) ≡ eqb b x
    go true e true f = sym (eq-eqb b x (omega (arith, leb-true x b e, leb-true b x f)))
    go true e false f = sym (ne_eqb b x (λ z. omega (arith, leb-false b x f)))
    go false e u f = sym (ne_eqb b x (λ z. omega (arith, leb-false x b e)))

pub digit_is : (b : ℕ) → is_of Digit b ≡ true → (48 ≤ b) × (b ≤ 57)
unfolding is_of is_digit
digit_is b e = between_is 48 57 b e

-- bytes of a class that are named in another way
module _ (c : Class) (p : ℕ → Bool) (each : (b : ℕ) → p b ≡ is_of c b) (s : List ℕ) where
  pub all_of_by : all_of c s ≡ all_below (length s) (byte_is p s)
  unfolding all_of all_bytes byte_is
  all_of_by = sym (all_same (byte_is p s) (byte_is (is_of c) s) (length s) (λ i h. each (get_or s i 0)))

  pub place_of_by : place_of c s ≡ first_below (length s) (byte_is p s)
  unfolding place_of byte_is
  place_of_by = sym (first_same (byte_is p s) (byte_is (is_of c) s) (length s) (λ i h. each (get_or s i 0)))

-- a byte of a text of one class
pub all_of_at : (c : Class) (s : List ℕ) → all_of c s ≡ true → (i : ℕ) → i < length s → is_of c (get_or s i 0) ≡ true
unfolding all_of all_bytes byte_is
all_of_at c s e i h = all_at (byte_is (is_of c) s) (length s) e i h

-- so is a part of it
pub all_of_part : (c : Class) (s : List ℕ) (i n : ℕ) → all_of c s ≡ true → all_of c (take n (drop i s)) ≡ true
unfolding all_of all_bytes byte_is
all_of_part c s i n e =
    all_each (byte_is (is_of c) (take n (drop i s))) (length (take n (drop i s)))
    (λ j h.
    let inside : j < n = omega (arith, length-take n (drop i s)) in
    let within : i + j < length s = omega (arith, length-take n (drop i s), length-drop i s) in
    ap (is_of c) (get_or-take n (drop i s) j 0 inside ∙ get_or-drop i s j 0) ∙ all_at (byte_is (is_of c) s) (length s) e (i + j) within)

pub place_le : (c : Class) (s : List ℕ) → place_of c s ≤ length s
unfolding place_of
place_le c s = first_le (byte_is (is_of c) s) (length s)

-- ---- filled, then blanks: the three tests in turn
module _ (c : Class) (s : List ℕ) where
  pub filled_none : filled_to s ≡ 0 → filled_with c s ≡ false
  unfolding filled_with
  filled_none e = rw e

  pub filled_other : all_of c (take (filled_to s) s) ≡ false → filled_with c s ≡ false
  unfolding filled_with padded_with all_of
  filled_other e =
      and_false_right (ltb 0 (filled_to s)) (all_bytes (is_of c) (take (filled_to s) s) && all_of (Only 32) (drop (filled_to s) s))
      (and_false_left (all_bytes (is_of c) (take (filled_to s) s)) (all_of (Only 32) (drop (filled_to s) s)) e)

  pub filled_rest : 0 < filled_to s → all_of c (take (filled_to s) s) ≡ true → filled_with c s ≡ all_of (Only 32) (drop (filled_to s) s)
  unfolding filled_with padded_with all_of
  filled_rest h e = rw (lt-ltb 0 (filled_to s) h, e)
