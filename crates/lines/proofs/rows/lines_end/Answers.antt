use Rattle.std.proofs.Common.{rules}
use Rattle.lines.specs.OverRange.{all_over}
use Rattle.lines.specs.Rows.{line_feed_at}
use Rattle.lines.specs.Tests.{tests}
use Rattle.lines.proofs.rows.lines_end.Goals as goal

pub returns : goal.returns
unfolding line_feed_at
returns c = all_over _ (line_feed_at c.args.layout c.args.file.now) _ _ _ c.all.ensures.ran (λ x b q k. search (rules, tests))
