use Rattle.std.proofs.Common.{◌∙◌, ap, sym, arith}
use Rattle.judge.proofs.RecordsSoFar.{one_more, so_far, so_far_none, so_far_more}
use Rattle.judge.proofs.records.fill.Goals as goal

pub loop-k-init : goal.loop-k-init
loop-k-init c = sym (so_far_none c.args.tif.now c.args.words.now c.args.records.now)

pub loop-k-preserved : goal.loop-k-preserved
loop-k-preserved c =
    let a = c.args in
    let more = so_far_more a.tif.now a.words.now a.records.now c.loop-k.k (omega (arith, c.requires.0)) in
    rw (c.loop-k.invariant, c.record_at.ensures) (more ∙ ap (so_far a.tif.now a.words.now a.records.now) (sym (one_more c.loop-k.k)))
