use mathlib.Core.Path.{◌≡◌, sym, ◌∙◌}
use mathlib.Core.Bool.{true, false}
use borrow.Author.Tests.{not-true, not-false}
use Rattle.job_form.specs.Form.{is_job}
use Rattle.job.specs.Printed.{text_of}
use Rattle.job.proofs.line.put_text.Goals as goal

pub returns-then-not-is_job : goal.returns-then-not-is_job
unfolding text_of
returns-then-not-is_job c =
    let e : is_job c.args.job.now ≡ false = sym c.is_job.ensures ∙ not-true _ c.if-not-is_job.true-raw in
    rw e c.put_run.ensures

pub judge_job-requires : goal.judge_job-requires
judge_job-requires c = sym c.is_job.ensures ∙ not-false _ c.if-not-is_job.false-raw

pub returns : goal.returns
unfolding text_of
returns c =
    let e : is_job c.args.job.now ≡ true = sym c.is_job.ensures ∙ not-false _ c.if-not-is_job.false-raw in
    rw (e, ← c.judge_job.ensures) c.put_answer.ensures
