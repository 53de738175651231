use Rattle.std.proofs.Common.{rules}
use Rattle.lines.specs.OverRange.{any_over}
use Rattle.lines.specs.Tests.{tests}
use Rattle.judging.specs.Judging.{repeats_at, repeated_at}
use Rattle.judging.proofs.line.is_repeated.Goals as goal

pub returns : goal.returns
unfolding repeated_at
returns c = any_over _ (repeats_at c.args.tif.now c.args.k) _ _ _ c.any.ensures.ran (λ x b q k. search (rules, tests))
