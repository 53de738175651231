-- What it shows that two texts are the same, and that equal ones are. Assumes nothing.
use Rattle.std.specs.Prelude.{◌≡◌, refl, Bool, true, false, List, ℕ, ◌≤◌, length, get_or, eqb}
use Rattle.std.proofs.Common.{sym, ap, ◌∙◌, arith, ext_get_or, eqb-true, eq-eqb}
use Rattle.std.proofs.lemmas.Bool.{not-false}
use Rattle.lines.specs.Below.{some_below}
use Rattle.lines.specs.BelowLaws.{first_is, first_le, first_none, some_none, some_each}
use Rattle.lines.specs.BoolLaws.{and_true, and_left, and_right}
use Rattle.lines.specs.Same.{differ_at, first_difference, same}

pub difference_le : (a b : List ℕ) → first_difference a b ≤ length a
unfolding first_difference
difference_le a b = first_le (differ_at a b) (length a)

-- where the first difference is the length there is none
nowhere : (a b : List ℕ) → first_difference a b ≡ length a → some_below (length a) (differ_at a b) ≡ false
unfolding first_difference
nowhere a b e = go (some_below (length a) (differ_at a b)) refl
  where
    go : (t : Bool) → some_below (length a) (differ_at a b) ≡ t → t ≡ false
    go true s = absurd (omega (arith, (first_is (differ_at a b) (length a) s).0))
    go false s = refl

-- the same texts are equal lists
pub same_is : (a b : List ℕ) → same a b ≡ true → a ≡ b
unfolding same differ_at
same_is a b e =
    let l : length a ≡ length b = eqb-true (length a) (length b) (and_left (eqb (length a) (length b)) (eqb (first_difference a b) (length a)) e) in
    let d : first_difference a b ≡ length a = eqb-true (first_difference a b) (length a) (and_right (eqb (length a) (length b)) (eqb (first_difference a b) (length a)) e) in
    ext_get_or 0 a b l
    (λ i h. eqb-true (get_or a i 0) (get_or b i 0) (not-false (eqb (get_or a i 0) (get_or b i 0)) (some_none (differ_at a b) (length a) (nowhere a b d) i h)))

-- texts that differ at a place are not the same
pub apart : (a b : List ℕ) (i : ℕ) → (get_or a i 0 ≡ get_or b i 0 → ⊥) → same a b ≡ false
apart a b i ne = go (same a b) refl
  where
    go : (t : Bool) → same a b ≡ t → t ≡ false
    go true s = absurd (ne (ap (λ (l : List ℕ). get_or l i 0) (same_is a b s)))
    go false s = refl

-- equal lists are the same texts
self : (s : List ℕ) → same s s ≡ true
unfolding same first_difference differ_at
self s =
    and_true (eqb (length s) (length s)) (eqb (first_difference s s) (length s)) (equal (length s))
    (eq-eqb (first_difference s s) (length s) (first_none (differ_at s s) (length s) (some_each (differ_at s s) (length s) (λ i h. rw (equal (get_or s i 0))))))
  where
    equal : (b : ℕ) → eqb b b ≡ true
    equal b = eq-eqb b b refl

pub same_self : (s t : List ℕ) → s ≡ t → same s t ≡ true
same_self s t e = ap (same s) (sym e) ∙ self s
