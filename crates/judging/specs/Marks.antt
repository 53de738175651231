-- The debit that a verdict credits, and the marks of a DEB file, which stay. That the marks follow the verdicts is shown in proofs/MarksLaws. Assumes nothing.
use Rattle.std.specs.Prelude.{◌≡◌, refl, false, ◌&&◌, List, ℕ, zero, suc, ◌<◌, Option, Some, None}
use Rattle.std.proofs.Common.{ap, arith}
use Rattle.tif.specs.Body.{line_at}
use Rattle.tif.specs.declared.side.Side.{Side}
use Rattle.tif.specs.declared.side.Side.TheVariants.{Debit}
use Rattle.debits.specs.Credits.{marks_after}
use Rattle.verdicts.specs.LineTests.{test_line, passes}
use Rattle.verdicts.specs.Verdict.{verdict_number}
use Rattle.verdicts.specs.declared.verdict.Verdict.{Verdict}
use Rattle.verdicts.specs.declared.verdict.Verdict.TheVariants.{Covered, Credits, WrongType, FieldOutOfForm, OtherActor, UnknownVehicle, PlateOutOfForm, RepeatedLine, NotCovered, NoDebit, UnknownStation}
use Rattle.judging.specs.Judging.{Judging, is_credit_file, known_on, reaches_at, marks_before}

-- the debit that a verdict credits
abbrev pub debit_of : Verdict → Option ℕ
debit_of (Covered place) = None
debit_of (Credits debit) = Some debit
debit_of WrongType = None
debit_of FieldOutOfForm = None
debit_of OtherActor = None
debit_of UnknownVehicle = None
debit_of PlateOutOfForm = None
debit_of RepeatedLine = None
debit_of NotCovered = None
debit_of NoDebit = None
debit_of UnknownStation = None

-- a refusal credits none
pub refusal_none : (v : Verdict) → 0 < verdict_number v → debit_of v ≡ None
refusal_none (Covered place) h = absurd (omega arith)
refusal_none (Credits debit) h = absurd (omega arith)
refusal_none WrongType h = refl
refusal_none FieldOutOfForm h = refl
refusal_none OtherActor h = refl
refusal_none UnknownVehicle h = refl
refusal_none PlateOutOfForm h = refl
refusal_none RepeatedLine h = refl
refusal_none NotCovered h = refl
refusal_none NoDebit h = refl
refusal_none UnknownStation h = refl

-- a DEB file leaves every mark as it is
debit_reaches_none : (j : Judging) (k : ℕ) → j.side ≡ Debit → reaches_at j k ≡ false
unfolding reaches_at
debit_reaches_none j k s = ap (λ (side : Side). is_credit_file side && passes (test_line side j.sender (known_on j k) (line_at j.tif k))) s

pub debit_file_keeps : (j : Judging) (marks : List ℕ) → j.side ≡ Debit → (k : ℕ) → marks_before j marks k ≡ marks
unfolding marks_after
debit_file_keeps j marks s zero = refl
debit_file_keeps j marks s (suc k) = rw (debit_reaches_none j k s) (debit_file_keeps j marks s k)
