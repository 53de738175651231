use native.Mathlib.Omega.{arith}
use mathlib.Core.List.{[], ◌∷◌}
use Rattle.lines.specs.SpliceLaws.{put_more}
use Rattle.job_line.specs.Line.{decimal, after_blank}
use Rattle.job_line.proofs.number.put_after_blank.Goals as goal

pub returns : goal.returns
unfolding after_blank
returns c =
    let a = c.args in
    let p = c.put_run-mid in
    let q = c.put_decimal in
    put_more (32 ∷ []) (decimal a.value) a.at p.result q.result a.line.now p.new.out q.new.line (omega arith) p.ensures q.ensures
