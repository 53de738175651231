use native.Mathlib.Omega.{arith}
use mathlib.Core.List.{[], ◌∷◌}
use Rattle.lines.specs.SpliceLaws.{put_more}
use Rattle.answers.specs.Answer.{fault_number}
use Rattle.job_line.specs.Line.{decimal, fault_text}
use Rattle.job_line.proofs.line.put_fault.Goals as goal

pub put_decimal-requires : goal.put_decimal-requires
put_decimal-requires c = omega (arith, c.put_run-mid.ensures.place)

pub returns : goal.returns
unfolding fault_text
returns c =
    let a = c.args in
    let p = c.put_run-mid in
    let q = c.put_decimal in
    let n = decimal (fault_number a.fault) in
    put_more (69 ∷ []) n a.at p.result q.result a.line.now p.new.out q.new.line (omega arith) p.ensures (rw (← c.from.ensures) q.ensures)
