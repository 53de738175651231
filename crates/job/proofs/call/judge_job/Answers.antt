use native.Mathlib.Omega.{arith}
use mathlib.Core.Path.{◌∙◌}
use Rattle.job_form.specs.FormLaws.{body_length}
use Rattle.job.proofs.call.judge_job.Goals as goal

pub judge_bodies-requires : goal.judge_bodies-requires
judge_bodies-requires c = rw c.body_of-8.ensures (body_length _ c.requires 6 (omega arith))

pub returns : goal.returns
returns c =
    c.judge_bodies.ensures
    ∙ rw (c.body_of.ensures, c.body_of-2.ensures, c.body_of-3.ensures, c.body_of-4.ensures, c.body_of-5.ensures, c.body_of-6.ensures, c.body_of-7.ensures, c.body_of-8.ensures)
