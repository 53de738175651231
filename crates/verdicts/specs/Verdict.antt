-- Verdicts, their numbers on paper and their words. Assumes nothing.
use Rattle.std.specs.Prelude.{◌≡◌, cond, List, [], ◌∷◌, ℕ, ◌+◌, ◌*◌, ◌/◌, ◌%◌, ◌<◌, eqb}
use Rattle.lines.specs.FirstOf.{Row, ◌⇒◌, first_of}
use Rattle.cover.specs.declared.cover.Place.{Place}
use Rattle.verdicts.specs.declared.verdict.Verdict.{Verdict}
use Rattle.verdicts.specs.declared.verdict.Verdict.TheVariants.{Covered, Credits, WrongType, FieldOutOfForm, OtherActor, UnknownVehicle, PlateOutOfForm, RepeatedLine, NotCovered, NoDebit, UnknownStation}

-- the paper's number of each verdict, L1 to L9, and 0 for an acceptance
abbrev pub verdict_number : Verdict → ℕ
verdict_number (Covered place) = 0
verdict_number (Credits debit) = 0
verdict_number WrongType = 1
verdict_number FieldOutOfForm = 2
verdict_number OtherActor = 3
verdict_number UnknownVehicle = 4
verdict_number PlateOutOfForm = 5
verdict_number RepeatedLine = 6
verdict_number NotCovered = 7
verdict_number NoDebit = 8
verdict_number UnknownStation = 9

-- what an acceptance carries, in the higher digits: the agreement and the period, or the debit
abbrev pub carried : Verdict → ℕ
carried (Covered place) = place.agreement * 256 + place.period * 16777216
carried (Credits debit) = debit * 256
carried WrongType = 0
carried FieldOutOfForm = 0
carried OtherActor = 0
carried UnknownVehicle = 0
carried PlateOutOfForm = 0
carried RepeatedLine = 0
carried NotCovered = 0
carried NoDebit = 0
carried UnknownStation = 0

-- the word of a verdict
abbrev pub word_of : Verdict → ℕ
word_of v = verdict_number v + carried v

-- ---- and back
abbrev pub word_number : ℕ → ℕ
word_number word = word % 256

abbrev pub word_first : ℕ → ℕ
word_first word = word / 256 % 65536

abbrev pub word_second : ℕ → ℕ
word_second word = word / 16777216

-- an acceptance with no period is that of a credit
unfoldable pub acceptance_of : ℕ → Verdict
acceptance_of word = cond (eqb (word_second word) 0) (Credits (word_first word)) (Covered (record { agreement = word_first word; period = word_second word }))

abbrev pub refusals : ℕ → List (Row Verdict)
refusals word =
    (eqb (word_number word) 1 ⇒ WrongType)
    ∷ (eqb (word_number word) 2 ⇒ FieldOutOfForm)
    ∷ (eqb (word_number word) 3 ⇒ OtherActor)
    ∷ (eqb (word_number word) 4 ⇒ UnknownVehicle)
    ∷ (eqb (word_number word) 5 ⇒ PlateOutOfForm)
    ∷ (eqb (word_number word) 6 ⇒ RepeatedLine)
    ∷ (eqb (word_number word) 7 ⇒ NotCovered)
    ∷ (eqb (word_number word) 8 ⇒ NoDebit)
    ∷ (eqb (word_number word) 9 ⇒ UnknownStation)
    ∷ []

-- the verdict that a word is
unfoldable pub verdict_of : ℕ → Verdict
verdict_of word = first_of (refusals word) (acceptance_of word)

-- a place whose numbers are below 65,536, and whose period is counted from 1
pub record Placed (place : Place) : Type 0 where
  pub agreed : place.agreement < 65536
  pub counted : 0 < place.period
  pub dated : place.period < 65536

-- what a verdict carries fits a word
pub record InWord (v : Verdict) : Type 0 where
  pub placed : (place : Place) → v ≡ Covered place → Placed place
  pub credited : (debit : ℕ) → v ≡ Credits debit → debit < 65536
