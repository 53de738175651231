-- A program that judges the first file and answers later ones with what it had then: the contract refuses it for its answer and, over a sequence on
-- marks that are handed on, for the marks. Results are taken as they come, however the program comes by them. Assumes nothing.
use Rattle.std.specs.Prelude.{◌≡◌, refl, List, [], ◌∷◌, ℕ, length, get_or, Ok}
use Rattle.std.proofs.Common.{sym, ap, ◌∙◌, arith}
use Rattle.verdicts.specs.declared.record.Record.{Record}
use Rattle.verdicts.specs.declared.verdict.Verdict.TheVariants.{NotCovered}
use Rattle.judge.specs.Call.{Call, answer_of, marks_of}
use Rattle.promises.specs.WorkedCall.{worked_call}
use Rattle.promises.specs.WorkedFile.{record_with}
use Rattle.promises.specs.WorkedCredits.{credit_call, credit_accepted, credit_refused, credit_answers, credit_marks}
use Rattle.promises.specs.WrongPrograms.{Result, Allowed, as_defined, not_all_refused, worked_is, empty_call, empty_answer, counts_told}

-- ---- the answer
-- on any two calls that are to be answered otherwise, one answer for both is refused
pub one_answer : (c d : Call) → (answer_of c ≡ answer_of d → ⊥) → (first later : Result) (a b : List Record) → Allowed c a first → Allowed d b later → later.answer ≡ first.answer → ⊥
one_answer c d other first later a b j k copied = other (sym j.answer ∙ sym copied ∙ k.answer)

-- so for the worked call and then the empty one: 01 and then 05
pub copied_answer : (first later : Result) (a b : List Record) → Allowed worked_call a first → Allowed empty_call b later → later.answer ≡ first.answer → ⊥
copied_answer = one_answer worked_call empty_call other
  where
    other : answer_of worked_call ≡ answer_of empty_call → ⊥
    other e =
        let clash : ◌≡◌ {A = ℕ} 2 0 = ap (λ (l : List ℕ). get_or l 0 0) (ap counts_told (sym worked_is ∙ e ∙ empty_answer)) in
        absurd (omega arith)

-- ---- the marks
-- three CRE files, each with one credit, on two debits that agree with it. No debit is marked at first, and each file is lent the marks that the file
-- before it left; the contract allows all three results
pub record ThreeFiles (first second third : Result) : Type 0 where
  pub lent : List Record
  pub lent_then : List Record
  pub lent_last : List Record
  pub fits : (length lent ≡ 1) × (length lent_then ≡ 1) × (length lent_last ≡ 1)
  pub one : Allowed (credit_call 1 (0 ∷ 0 ∷ [])) lent first
  pub two : Allowed (credit_call 2 first.marks) lent_then second
  pub three : Allowed (credit_call 3 second.marks) lent_last third

-- there are such results: those of the definitions
abbrev one_record : List Record
one_record = record_with 0 0 NotCovered 0 ∷ []

abbrev defined_for : ℕ → List ℕ → Result
defined_for sequence marks = as_defined (credit_call sequence marks) one_record

pub some_files :
    (first : Result) × (second : Result) × (third : Result) × ThreeFiles first second third
some_files =
    let first = defined_for 1 (0 ∷ 0 ∷ []) in
    let second = defined_for 2 first.marks in (
      first,
      second,
      defined_for 3 second.marks,
      record {
        lent = one_record;
        lent_then = one_record;
        lent_last = one_record;
        fits = (refl, refl, refl);
        one = not_all_refused (credit_call 1 (0 ∷ 0 ∷ [])) one_record;
        two = not_all_refused (credit_call 2 first.marks) one_record;
        three = not_all_refused (credit_call 3 second.marks) one_record;
      },
    )

module _ (first second third : Result) (t : ThreeFiles first second third) where
  -- the first file takes the first debit, the second file the second
  pub first_marks : first.marks ≡ 1 ∷ 0 ∷ []
  first_marks = t.one.marks_then ∙ credit_marks.0

  pub second_marks : second.marks ≡ 1 ∷ 1 ∷ []
  second_marks = t.two.marks_then ∙ ap (λ (marks : List ℕ). marks_of (credit_call 2 marks)) first_marks ∙ credit_marks.1

  -- both are answered alike, so the answers do not tell a program that copies from one that judges,
  pub first_answer : first.answer ≡ Ok credit_accepted
  first_answer = t.one.answer ∙ credit_answers.0

  pub second_answer : second.answer ≡ Ok credit_accepted
  second_answer = t.two.answer ∙ ap (λ (marks : List ℕ). answer_of (credit_call 2 marks)) first_marks ∙ credit_answers.1

  -- but the marks do: those of the first file again are refused
  pub copied_marks : second.marks ≡ first.marks → ⊥
  copied_marks copied =
      let clash : ◌≡◌ {A = ℕ} 1 0 = ap (λ (marks : List ℕ). get_or marks 1 0) (sym second_marks ∙ copied ∙ first_marks) in
      absurd (omega arith)

  -- the third file finds no debit left: its credit is L8, and the first file's answer again is refused
  pub third_answer : third.answer ≡ Ok credit_refused
  third_answer = t.three.answer ∙ ap (λ (marks : List ℕ). answer_of (credit_call 3 marks)) second_marks ∙ credit_answers.2

  pub copied_credit : third.answer ≡ first.answer → ⊥
  copied_credit copied =
      let clash : ◌≡◌ {A = ℕ} 0 1 = ap (λ (l : List ℕ). get_or l 0 0) (ap counts_told (sym third_answer ∙ copied ∙ first_answer)) in
      absurd (omega arith)
