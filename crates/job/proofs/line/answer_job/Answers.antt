use native.Mathlib.Omega.{arith}
use mathlib.Core.List.{[], ◌∷◌}
use Rattle.lines.specs.SpliceLaws.{put_more}
use Rattle.job.specs.Printed.{text_of, printed_of}
use Rattle.job.specs.PrintedLaws.{text_length}
use Rattle.job.proofs.line.answer_job.Goals as goal

pub put_run-requires : goal.put_run-requires
put_run-requires c = omega (arith, c.put_text-mid.ensures.place, text_length c.args.job.now)

pub returns : goal.returns
unfolding printed_of
returns c =
    let a = c.args in
    let p = c.put_text-mid in
    let q = c.put_run in
    put_more (text_of a.job.now) (10 ∷ []) 0 p.result q.result a.line.now p.new.line q.new.out (omega (arith, text_length a.job.now)) p.ensures q.ensures
