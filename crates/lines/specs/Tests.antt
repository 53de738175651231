-- The tests of a list, for `omega`: each goal `ltb a b ≡ true`, `not (eqb a b) ≡ false` and so on, from the numbers. Assumes nothing.
use Rattle.std.specs.Prelude.{◌≡◌, true, false, not, ℕ, eqb}
use Rattle.std.proofs.Common.{ap, arith, lt-ltb, le-ltb, le-leb, eq-eqb, ne_eqb}
use Rattle.std.proofs.lemmas.Bool.{lt-leb}

pub eq_not : (a b : ℕ) → a ≡ b → not (eqb a b) ≡ false
eq_not a b h = ap not (eq-eqb a b h)

pub ne_not : (a b : ℕ) → (a ≡ b → ⊥) → not (eqb a b) ≡ true
ne_not a b h = ap not (ne_eqb a b h)

pub ruleset tests = (arith, lt-ltb, le-ltb, le-leb, lt-leb, eq-eqb, ne_eqb, eq_not, ne_not)
