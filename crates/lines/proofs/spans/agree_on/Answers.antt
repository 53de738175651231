use Rattle.lines.specs.Spans.{agree_on}
use Rattle.lines.proofs.spans.agree_on.Goals as goal

pub returns : goal.returns
unfolding agree_on
returns c = c.agree_across.ensures
