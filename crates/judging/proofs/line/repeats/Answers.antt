use native.Mathlib.Omega.{arith}
use mathlib.Core.Path.{◌∙◌}
use Rattle.judging.specs.Judging.{repeats_at}
use Rattle.judging.specs.StepLaws.{repeat_spans_in}
use Rattle.judging.specs.StepLaws.{line_whole}
use Rattle.judging.proofs.line.repeats.Goals as goal

pub agree_on-requires : goal.agree_on-requires
agree_on-requires c = (
  rw c.tif_line.ensures (repeat_spans_in _ (line_whole c.args.tif.now c.args.i (omega arith))),
  rw c.tif_line-2.ensures (repeat_spans_in _ (line_whole c.args.tif.now c.args.k c.requires.0)),
)

pub returns : goal.returns
unfolding repeats_at
returns c = c.agree_on.ensures ∙ rw (c.tif_line.ensures, c.tif_line-2.ensures)
