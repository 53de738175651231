use Rattle.std.proofs.Common.{ℕ, List, [], arith}
use denote.Ref.{Bor}
use Rattle.lines.specs.SpliceLaws.{put_none, put_more}
use Rattle.tic_text.specs.Pieces.{joined}
use Rattle.tic_text.specs.PieceLaws.{texts_more, texts_fit}
use Rattle.tic_text.proofs.text.put_texts.Goals as goal

-- what the loop takes past the last text
abbrev none : Bor (List ℕ)
none = record { ref_ptr = (0, 0); now = [] }

pub loop-text-init : goal.loop-text-init
unfolding joined
loop-text-init c = put_none _ _

pub put_bytes-mid-requires : goal.put_bytes-mid-requires
put_bytes-mid-requires c =
    omega (arith, c.loop-text.invariant.place, c.requires, texts_fit c.args.texts.now c.loop-text.text-index none c.loop-text-test.true)

pub loop-text-preserved : goal.loop-text-preserved
loop-text-preserved c =
    let fit = texts_fit c.args.texts.now c.loop-text.text-index none c.loop-text-test.true in
    rw (texts_more c.args.texts.now c.loop-text.text-index none c.loop-text-test.true)
    (put_more _ _ _ _ _ _ _ _ (omega (arith, c.requires, fit)) c.loop-text.invariant c.put_bytes-mid.ensures)
