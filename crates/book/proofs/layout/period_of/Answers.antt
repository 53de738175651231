use Rattle.book.specs.Layout.{period_of}
use Rattle.book.proofs.layout.period_of.Goals as goal

pub returns : goal.returns
unfolding period_of
returns c = c.line_of.ensures
