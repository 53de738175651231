use native.Mathlib.Omega.{arith}
use mathlib.Core.List.{◌++◌}
use lib.ListN.{length-append}
use Rattle.lines.specs.SpliceLaws.{put_more}
use Rattle.job_line.specs.Line.{after_blank}
use Rattle.job_line.specs.LineLaws.{blank_length}
use Rattle.job_line.proofs.number.put_three.Goals as goal

pub put_after_blank-mid-requires-2 : goal.put_after_blank-mid-requires-2
put_after_blank-mid-requires-2 c =
    let a = c.args in
    omega (arith, c.put_after_blank-mid.ensures.place, blank_length a.first)

pub put_after_blank-requires : goal.put_after_blank-requires
put_after_blank-requires c =
    let a = c.args in
    omega (arith, c.put_after_blank-mid-2.ensures.place, c.put_after_blank-mid.ensures.place, blank_length a.first, blank_length a.second)

pub returns : goal.returns
returns c =
    let a = c.args in
    let p = c.put_after_blank-mid in
    let q = c.put_after_blank-mid-2 in
    let r = c.put_after_blank in
    let x = after_blank a.first in
    let y = after_blank a.second in
    let z = after_blank a.third in
    put_more (x ++ y) z a.at q.result r.result a.line.now q.new.line r.new.line (omega (arith, length-append x y, blank_length a.first, blank_length a.second))
    (put_more x y a.at p.result q.result a.line.now p.new.line q.new.line (omega (arith, blank_length a.first)) p.ensures q.ensures)
    r.ensures
