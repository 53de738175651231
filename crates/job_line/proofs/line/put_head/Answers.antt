use native.Mathlib.Omega.{arith}
use mathlib.Core.List.{[], ◌∷◌, ◌++◌}
use lib.ListN.{length-append}
use Rattle.lines.specs.Number.{digits_of}
use Rattle.lines.specs.NumberLaws.{digits_length}
use Rattle.lines.specs.SpliceLaws.{put_more}
use Rattle.tif.specs.Side.{side_text}
use Rattle.answers.specs.Answer.{answer_code}
use Rattle.job_line.specs.Line.{head_text}
use Rattle.job_line.proofs.line.put_head.Goals as goal

pub put_run-mid-requires : goal.put_run-mid-requires
put_run-mid-requires c =
    let p = c.put_digits-mid in
    omega (arith, p.ensures.place, digits_length 2 c.from.result)

pub put_side-requires : goal.put_side-requires
put_side-requires c =
    let p = c.put_digits-mid in
    omega (arith, c.put_run-mid.ensures.place, p.ensures.place, digits_length 2 c.from.result)

pub returns : goal.returns
unfolding head_text
returns c =
    let a = c.args in
    let p = c.put_digits-mid in
    let q = c.put_run-mid in
    let r = c.put_side in
    let d = digits_of 2 (answer_code a.s.answer) in
    let l = digits_length 2 (answer_code a.s.answer) in
    put_more (d ++ (32 ∷ [])) (side_text a.s.side) a.at q.result r.result a.line.now q.new.out r.new.out (omega (arith, l, length-append d (32 ∷ [])))
    (put_more d (32 ∷ []) a.at p.result q.result a.line.now p.new.out q.new.out (omega (arith, l)) (rw (← c.from.ensures) p.ensures) q.ensures)
    r.ensures
