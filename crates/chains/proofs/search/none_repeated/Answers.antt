use Rattle.std.proofs.Common.{rules}
use Rattle.lines.specs.OverRange.{all_over}
use Rattle.lines.specs.Tests.{tests}
use Rattle.chains.specs.Index.{fresh_at, all_different}
use Rattle.chains.proofs.search.none_repeated.Goals as goal

pub returns : goal.returns
unfolding all_different fresh_at
returns c =
    let rows = c.args.rows in
    all_over _ (fresh_at rows.layout rows.file.now rows.spans.now) _ _ _ c.all.ensures.ran (λ x b q k. search (rules, tests))
