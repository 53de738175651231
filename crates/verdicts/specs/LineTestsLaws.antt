-- What the tests of a line by itself say of a longer list of tests that begins with them. Assumes nothing.
use Rattle.std.proofs.Math.Path.{◌≡◌, refl}
use Rattle.std.specs.Prelude.{Bool, true, false, not, cond, ℕ, ◌<◌, Result, Ok, Err}
use Rattle.std.proofs.Common.{true≢false, arith}
use mathlib.Core.List.{List, [], ◌∷◌, ◌++◌}
use Rattle.lines.specs.FirstOf.{Row, ◌⇒◌, first_of}
use Rattle.tif.specs.declared.side.Side.{Side}
use Rattle.verdicts.specs.LineTests.{is_lawful_type, fields_in_form, is_from_sender, is_known_vehicle, plates_in_form, failing, test_line}
use Rattle.verdicts.specs.Verdict.{verdict_number}
use Rattle.verdicts.specs.declared.verdict.Verdict.{Verdict}
use Rattle.verdicts.specs.declared.verdict.Verdict.TheVariants.{WrongType, FieldOutOfForm, OtherActor, UnknownStation, UnknownVehicle, PlateOutOfForm}

module _ (rest : List (Row Verdict)) (other : Verdict) where
  -- a test that fails decides
  pub fails_first : (rows : List (Row Verdict)) (v : Verdict) → first_of (failing rows) (Ok tt) ≡ Err v → v ≡ first_of (rows ++ rest) other
  unfolding first_of
  fails_first [] v e = let z : ◌≡◌ {A = ℕ} 0 1 = cc in absurd (omega arith)
  fails_first ((true ⇒ w) ∷ rows) v e = cc
  fails_first ((false ⇒ w) ∷ rows) v e = fails_first rows v e

  -- where none fails, the others decide
  pub passes_on : (rows : List (Row Verdict)) → first_of (failing rows) (Ok tt) ≡ Ok tt → first_of (rows ++ rest) other ≡ first_of rest other
  unfolding first_of
  passes_on [] e = refl
  passes_on ((true ⇒ w) ∷ rows) e = let z : ◌≡◌ {A = ℕ} 0 1 = cc in absurd (omega arith)
  passes_on ((false ⇒ w) ∷ rows) e = passes_on rows e

-- what fails is one of L1 to L5, or L9 where the station is not known: what holds of each of these holds of it
module _ (P : Verdict → Type 0) (type : P WrongType) (form : P FieldOutOfForm) (actor : P OtherActor) (vehicle : P UnknownVehicle) (plate : P PlateOutOfForm) where
  pub fails_each : (side : Side) (sender : List ℕ) (known : Bool) (line : List ℕ) (v : Verdict) → (known ≡ false → P UnknownStation) → test_line side sender known line ≡ Err v → P v
  unfolding test_line first_of
  fails_each side sender known line v station e =
      go (not (is_lawful_type side line)) (not (fields_in_form line)) (not (is_from_sender sender line)) known refl (not (is_known_vehicle line)) (not (plates_in_form line)) e
    where
      told : (w : Verdict) → P w → ◌≡◌ {A = Result (Unit {0}) Verdict} (Err w) (Err v) → P v
      told w h p = let q : w ≡ v = cc in rw q at h

      go : (a b c u : Bool) → known ≡ u → (d f : Bool)
          → cond a (Err WrongType) (cond b (Err FieldOutOfForm) (cond c (Err OtherActor) (cond (not u) (Err UnknownStation) (cond d (Err UnknownVehicle) (cond f (Err PlateOutOfForm) (Ok (tt {0}))))))) ≡ Err v
          → P v
      go true b c u k d f p = told WrongType type p
      go false true c u k d f p = told FieldOutOfForm form p
      go false false true u k d f p = told OtherActor actor p
      go false false false false k d f p = told UnknownStation (station k) p
      go false false false true k true f p = told UnknownVehicle vehicle p
      go false false false true k false true p = told PlateOutOfForm plate p
      go false false false true k false false p = let z : ◌≡◌ {A = ℕ} 0 1 = cc in absurd (omega arith)

-- what fails is refused
pub line_refuses : (side : Side) (sender : List ℕ) (known : Bool) (line : List ℕ) (v : Verdict) → test_line side sender known line ≡ Err v → 0 < verdict_number v
line_refuses side sender known line v e =
    fails_each (λ (w : Verdict). 0 < verdict_number w) (omega arith) (omega arith) (omega arith) (omega arith) (omega arith) side sender known line v (λ k. omega arith) e

-- where the station is known, what fails is one of L1 to L5
pub known_number : (side : Side) (sender line : List ℕ) (v : Verdict) → test_line side sender true line ≡ Err v → verdict_number v < 6
known_number side sender line v e =
    fails_each (λ (w : Verdict). verdict_number w < 6) (omega arith) (omega arith) (omega arith) (omega arith) (omega arith) side sender true line v (λ k. absurd (true≢false k)) e
