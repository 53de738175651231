use Rattle.std.proofs.Common.{arith, sym, ap, ◌∙◌}
use Rattle.lines.specs.BelowLaws.{all_fails}
use Rattle.tif.specs.Body.{line_sound_at, line_amount, body_sound, body_amount}
use Rattle.tif.specs.BodyLaws.{amount_bad, line_not}
use Rattle.tif.proofs.body.body_amount.Goals as goal

pub returns-in_err-line_amount : goal.returns-in_err-line_amount
unfolding body_amount body_sound
returns-in_err-line_amount c =
    let unsound = line_not c.args.tif.now c.loop-k.k (sym (c.in_err-line_amount.ensures ∙ ap line_amount c.tif_line.ensures)) in
    c.from_residual.ensures ∙ sym (amount_bad _ _ (all_fails (line_sound_at c.args.tif.now) _ c.loop-k.k (omega arith) unsound))
