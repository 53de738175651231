use native.Mathlib.Omega.{arith}
use mathlib.Core.List.{◌++◌}
use lib.ListN.{length-append}
use Rattle.lines.specs.SpliceLaws.{put_more}
use Rattle.job_line.specs.Line.{head_text, counts_text, amounts_text, summary_text}
use Rattle.job_line.specs.LineLaws.{head_length, counts_length}
use Rattle.job_line.proofs.line.put_summary.Goals as goal

pub put_counts-mid-requires : goal.put_counts-mid-requires
put_counts-mid-requires c =
    let s = c.args.s in
    omega (arith, c.put_head-mid.ensures.place, head_length s)

pub put_amounts-requires : goal.put_amounts-requires
put_amounts-requires c =
    let s = c.args.s in
    omega (arith, c.put_counts-mid.ensures.place, c.put_head-mid.ensures.place, head_length s, counts_length s)

pub returns : goal.returns
unfolding summary_text
returns c =
    let a = c.args in
    let p = c.put_head-mid in
    let q = c.put_counts-mid in
    let r = c.put_amounts in
    let x = head_text a.s in
    let y = counts_text a.s in
    put_more (x ++ y) (amounts_text a.s) a.at q.result r.result a.line.now q.new.line r.new.line (omega (arith, length-append x y, head_length a.s, counts_length a.s))
    (put_more x y a.at p.result q.result a.line.now p.new.line q.new.line (omega (arith, head_length a.s)) p.ensures q.ensures)
    r.ensures
