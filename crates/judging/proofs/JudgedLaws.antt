-- A line judged as a whole: by its own tests, or by those of the file where it passes them. Assumes nothing.
-- These laws stand here and not in specs/, since they rest on `fails_verdict` and `passes_verdict`, which wrong tests of a line make false: a must-fail edit counts only where nothing in specs/ rests on what it makes false.
use Rattle.std.specs.Prelude.{◌≡◌, false, List, ℕ, Ok, Err}
use Rattle.std.proofs.Common.{sym, ◌∙◌}
use Rattle.verdicts.specs.declared.verdict.Verdict.{Verdict}
use Rattle.judging.specs.Judging.{Judging, is_credit_file, test_on}
use Rattle.judging.specs.StepLaws.{fails_reaches, passes_reaches, next_by, fails_verdict, passes_verdict}
use Rattle.judging.specs.Steps.{PassedJudged, Judged}

module _ (j : Judging) (marks : List ℕ) (k : ℕ) where
  -- it fails one of L1 to L5 or L9: that decides, and no mark is touched
  pub fails_judged : (v : Verdict) → test_on j k ≡ Err v → Judged j marks k v marks
  fails_judged v e =
      record {
        verdict = fails_verdict j marks k v e;
        marked = sym (next_by j marks k false (fails_reaches j marks k v e));
      }

  -- it passes them: the tests of the file decide
  pub passes_judged : (v : Verdict) (after : List ℕ) → test_on j k ≡ Ok tt
      → PassedJudged j.side j.book j.debits marks j.tif k v after → Judged j marks k v after
  passes_judged v after e p =
      record {
        verdict = p.verdict ∙ sym (passes_verdict j marks k e);
        marked = p.marked ∙ sym (next_by j marks k (is_credit_file j.side) (passes_reaches j marks k e));
      }
