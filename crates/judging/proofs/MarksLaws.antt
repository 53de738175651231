-- The marks follow the verdicts: a line that credits a debit marks that one, and every other line, a credit refused before L8 among them, marks none. Assumes nothing.
-- These laws stand here and not in specs/, since they rest on `fails_verdict` and `passes_verdict`, which wrong tests of a line make false: a must-fail edit counts only where nothing in specs/ rests on what it makes false.
use Rattle.std.specs.Prelude.{◌≡◌, refl, Bool, true, false, List, ℕ, suc, Result, Ok, Err, Option, Some, None}
use Rattle.std.proofs.Common.{sym, ap, ◌∙◌}
use Rattle.tif.specs.Body.{line_at}
use Rattle.tif.specs.declared.side.Side.{Side}
use Rattle.tif.specs.declared.side.Side.TheVariants.{Credit, Debit, Neither}
use Rattle.cover.specs.declared.cover.Place.{Place}
use Rattle.debits.specs.Credits.{marks_after}
use Rattle.debits.specs.Taking.{marks_then}
use Rattle.verdicts.specs.LineTestsLaws.{line_refuses}
use Rattle.verdicts.specs.declared.verdict.Verdict.{Verdict}
use Rattle.verdicts.specs.declared.verdict.Verdict.TheVariants.{WrongType}
use Rattle.judging.specs.Judging.{Judging, is_credit_file, repeated_at, cover_on, credit_of, debit_verdict, passed_verdict, taken_on, known_on, test_on, verdict_on, reaches_at, marks_next, marks_before, verdict_at}
use Rattle.judging.specs.StepLaws.{passed_credit, passed_debit, passed_neither, fails_reaches, passes_reaches, next_by, fails_verdict, passes_verdict}
use Rattle.judging.specs.Marks.{debit_of, refusal_none}

credit_debit : (took : Option ℕ) → debit_of (credit_of took) ≡ took
credit_debit (Some debit) = refl
credit_debit None = refl

debit_none : (repeated : Bool) (cover : Option Place) → debit_of (debit_verdict repeated cover) ≡ None
debit_none true cover = refl
debit_none false (Some place) = refl
debit_none false None = refl

module _ (j : Judging) (marks : List ℕ) (k : ℕ) where
  -- by the verdict on line k the marks after it are given
  pub marks_follow : marks_next j marks k ≡ marks_then marks (debit_of (verdict_on j marks k))
  marks_follow = go (test_on j k) refl
    where
      -- a line that takes no debit, and does not reach L8
      none : reaches_at j k ≡ false → debit_of (verdict_on j marks k) ≡ None → marks_next j marks k ≡ marks_then marks (debit_of (verdict_on j marks k))
      none e f = next_by j marks k false e ∙ sym (ap (marks_then marks) f)

      by_side : test_on j k ≡ Ok tt → {side : Side} → j.side ≡ side
          → verdict_on j marks k ≡ passed_verdict side (repeated_at j.tif k) (cover_on j.book (line_at j.tif k)) (taken_on j marks k)
      by_side e s = passes_verdict j marks k e ∙ ap (λ (x : Side). passed_verdict x (repeated_at j.tif k) (cover_on j.book (line_at j.tif k)) (taken_on j marks k)) s

      passed : test_on j k ≡ Ok tt → (side : Side) → j.side ≡ side → marks_next j marks k ≡ marks_then marks (debit_of (verdict_on j marks k))
      passed e Credit s =
          let v : verdict_on j marks k ≡ credit_of (taken_on j marks k) = by_side e s ∙ passed_credit (repeated_at j.tif k) (cover_on j.book (line_at j.tif k)) (taken_on j marks k) in
          next_by j marks k true (passes_reaches j marks k e ∙ ap is_credit_file s)
          ∙ sym (ap (marks_then marks) (ap debit_of v ∙ credit_debit (taken_on j marks k)))
      passed e Debit s =
          let v : verdict_on j marks k ≡ debit_verdict (repeated_at j.tif k) (cover_on j.book (line_at j.tif k)) = by_side e s ∙ passed_debit (repeated_at j.tif k) (cover_on j.book (line_at j.tif k)) (taken_on j marks k) in
          none (passes_reaches j marks k e ∙ ap is_credit_file s) (ap debit_of v ∙ debit_none (repeated_at j.tif k) (cover_on j.book (line_at j.tif k)))
      passed e Neither s =
          let v : verdict_on j marks k ≡ WrongType = by_side e s ∙ passed_neither (repeated_at j.tif k) (cover_on j.book (line_at j.tif k)) (taken_on j marks k) in
          none (passes_reaches j marks k e ∙ ap is_credit_file s) (ap debit_of v)

      go : (t : Result (Unit {0}) Verdict) → test_on j k ≡ t → marks_next j marks k ≡ marks_then marks (debit_of (verdict_on j marks k))
      go (Err v) e =
          none (fails_reaches j marks k v e)
          (ap debit_of (sym (fails_verdict j marks k v e)) ∙ refusal_none v (line_refuses j.side j.sender (known_on j k) (line_at j.tif k) v e))
      go (Ok tt) e = passed e j.side refl

-- along the file: after each line its debit is marked, if it credits one
pub marks_follow_file : (j : Judging) (marks : List ℕ) (k : ℕ) → marks_before j marks (suc k) ≡ marks_then (marks_before j marks k) (debit_of (verdict_at j marks k))
unfolding marks_after marks_next verdict_at
marks_follow_file j marks k = marks_follow j (marks_before j marks k) k
