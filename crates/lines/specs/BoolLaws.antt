-- The laws of `&&` and `||`: how a joint test is shown, and what it shows. Assumes nothing.
use Rattle.std.specs.Prelude.{◌≡◌, refl, Bool, true, false, ◌&&◌, ◌||◌}
use Rattle.std.proofs.Common.{true≢false}
use Rattle.std.proofs.lemmas.Bool.{false≢true}

pub and_true : (a b : Bool) → a ≡ true → b ≡ true → (a && b) ≡ true
and_true a b p q = rw (p, q)

pub and_left : (a b : Bool) → (a && b) ≡ true → a ≡ true
and_left true b e = refl
and_left false b e = e

pub and_right : (a b : Bool) → (a && b) ≡ true → b ≡ true
and_right true b e = e
and_right false b e = absurd (false≢true e)

pub and_false_left : (a b : Bool) → a ≡ false → (a && b) ≡ false
and_false_left a b p = rw p

pub and_false_right : (a b : Bool) → b ≡ false → (a && b) ≡ false
and_false_right true b p = p
and_false_right false b p = refl

pub and_one : (a : Bool) → (a && true) ≡ a
and_one true = refl
and_one false = refl

pub and_swap : (a b c : Bool) → (a && b && c) ≡ (a && c && b)
and_swap false b c = refl
and_swap true true true = refl
and_swap true true false = refl
and_swap true false true = refl
and_swap true false false = refl

pub or_false : (a b : Bool) → a ≡ false → b ≡ false → (a || b) ≡ false
or_false a b p q = rw (p, q)

pub or_true_left : (a b : Bool) → a ≡ true → (a || b) ≡ true
or_true_left a b p = rw p

pub or_true_right : (a b : Bool) → b ≡ true → (a || b) ≡ true
or_true_right true b p = refl
or_true_right false b p = p

pub or_none_left : (a b : Bool) → (a || b) ≡ false → a ≡ false
or_none_left true b e = absurd (true≢false e)
or_none_left false b e = refl

pub or_none_right : (a b : Bool) → (a || b) ≡ false → b ≡ false
or_none_right true b e = absurd (true≢false e)
or_none_right false b e = e
