-- A list of tests, all of which are to hold; and how a function that goes through them in turn shows its answer. Assumes nothing.
use Rattle.std.specs.Prelude.{◌≡◌, refl, Bool, true, false, ◌&&◌, List, [], ◌∷◌}
use Rattle.std.proofs.Common.{sym, ap, ◌∙◌}
use Rattle.lines.specs.BoolLaws.{and_left, and_right}

-- each test of the list holds
unfoldable pub every : List Bool → Bool
every [] = true
every (b ∷ bs) = b && every bs

-- an answer of a function that tests in turn: false at a test that fails, and at the end what the last one says
pub data Tested : List Bool → Bool → Type 0 where
  stop : {b : Bool} {bs : List Bool} → b ≡ false → Tested (b ∷ bs) false
  pass : {b r : Bool} {bs : List Bool} → b ≡ true → Tested bs r → Tested (b ∷ bs) r
  last : {b r : Bool} → r ≡ b → Tested (b ∷ []) r
  done : Tested [] true

and_last : (b : Bool) → b ≡ (b && true)
and_last true = refl
and_last false = refl

pub tested : {bs : List Bool} {r : Bool} → Tested bs r → r ≡ every bs
unfolding every
tested (stop {b} {bs} e) = sym (ap (λ (t : Bool). t && every bs) e)
tested (pass {b} {r} {bs} e p) = tested p ∙ sym (ap (λ (t : Bool). t && every bs) e)
tested (last {b} {r} e) = e ∙ and_last b
tested done = refl

-- the constructors as functions, whose tests are then read off what is to be shown
pub fails : {b : Bool} {bs : List Bool} → b ≡ false → Tested (b ∷ bs) false
fails e = Tested.stop e

pub holds : {b r : Bool} {bs : List Bool} → b ≡ true → Tested bs r → Tested (b ∷ bs) r
holds e p = Tested.pass e p

pub finally : {b r : Bool} → r ≡ b → Tested (b ∷ []) r
finally e = Tested.last e

-- what it shows that all hold: the first does, and the others
module _ (b : Bool) (bs : List Bool) (e : every (b ∷ bs) ≡ true) where
  pub every_first : b ≡ true
  unfolding every
  every_first = and_left b (every bs) e

  pub every_rest : every bs ≡ true
  unfolding every
  every_rest = and_right b (every bs) e
