-- A word gives its verdict back, and its number. Assumes nothing.
use Rattle.std.specs.Prelude.{◌≡◌, refl, ℕ, ◌<◌}
use Rattle.std.proofs.Common.{sym, ap, ◌∙◌, arith}
use borrow.Author.Tests.{ne_eqb}
use Rattle.lines.specs.FirstOf.{first_of, past, none, picked}
use Rattle.lines.specs.Tests.{tests}
use Rattle.cover.specs.declared.cover.Place.{Place}
use Rattle.verdicts.specs.Verdict.{verdict_number, word_of, word_number, word_first, word_second, acceptance_of, verdict_of, Placed, InWord}
use Rattle.verdicts.specs.declared.verdict.Verdict.{Verdict}
use Rattle.verdicts.specs.declared.verdict.Verdict.TheVariants.{Covered, Credits, WrongType, FieldOutOfForm, OtherActor, UnknownVehicle, PlateOutOfForm, RepeatedLine, NotCovered, NoDebit, UnknownStation}

-- a word with the number 0 is an acceptance
pub accepts : (word : ℕ) → word_number word ≡ 0 → acceptance_of word ≡ verdict_of word
unfolding verdict_of
accepts word e =
    picked
    (past (omega tests) (past (omega tests) (past (omega tests) (past (omega tests) (past (omega tests) (past (omega tests) (past (omega tests) (past (omega tests) (past (omega tests) none)))))))))

-- with a period it is that of a debit, with none that of a credit
module _ (word a b : ℕ) (e : word_first word ≡ a) (f : word_second word ≡ b) where
  accepts_place : 0 < b → acceptance_of word ≡ Covered (record { agreement = a; period = b })
  unfolding acceptance_of
  accepts_place h = rw (e, f, ne_eqb b 0 (omega arith))

  accepts_debit : b ≡ 0 → acceptance_of word ≡ Credits a
  unfolding acceptance_of
  accepts_debit h = rw (e, f, h)

covered_back : (place : Place) → Placed place → verdict_of (word_of (Covered place)) ≡ Covered place
covered_back place p =
    let w = word_of (Covered place) in
    sym (accepts w (omega arith)) ∙ accepts_place w place.agreement place.period (omega arith) (omega arith) p.counted

credits_back : (debit : ℕ) → debit < 65536 → verdict_of (word_of (Credits debit)) ≡ Credits debit
credits_back debit h =
    let w = word_of (Credits debit) in
    sym (accepts w (omega arith)) ∙ accepts_debit w debit 0 (omega arith) (omega arith) refl

-- a word gives its verdict back
pub word_back : (v : Verdict) → InWord v → verdict_of (word_of v) ≡ v
unfolding verdict_of first_of
word_back (Covered place) i = covered_back place (i.placed place refl)
word_back (Credits debit) i = credits_back debit (i.credited debit refl)
word_back WrongType i = refl
word_back FieldOutOfForm i = refl
word_back OtherActor i = refl
word_back UnknownVehicle i = refl
word_back PlateOutOfForm i = refl
word_back RepeatedLine i = refl
word_back NotCovered i = refl
word_back NoDebit i = refl
word_back UnknownStation i = refl

-- the number in a word is its verdict's
pub word_number_lem : (v : Verdict) → word_number (word_of v) ≡ verdict_number v
word_number_lem (Covered place) = omega arith
word_number_lem (Credits debit) = omega arith
word_number_lem WrongType = refl
word_number_lem FieldOutOfForm = refl
word_number_lem OtherActor = refl
word_number_lem UnknownVehicle = refl
word_number_lem PlateOutOfForm = refl
word_number_lem RepeatedLine = refl
word_number_lem NotCovered = refl
word_number_lem NoDebit = refl
word_number_lem UnknownStation = refl

-- a refusal carries nothing, and so fits a word
pub refusal_fits : (v : Verdict) → 0 < verdict_number v → InWord v
refusal_fits v h =
    record {
      placed = λ place e. absurd (omega (arith, ap verdict_number e));
      credited = λ debit e. absurd (omega (arith, ap verdict_number e));
    }
