use Rattle.std.proofs.Common.{rules}
use Rattle.lines.specs.OverRange.{find_over}
use Rattle.lines.specs.Tests.{tests}
use Rattle.book.specs.Layout.{width}
use Rattle.cover.specs.Cover.{covers_at}
use Rattle.cover.specs.Detected.{asked_by}
use Rattle.cover.proofs.cover.first_covering.Goals as goal

pub returns : goal.returns
returns c =
    let a = c.args in
    rw (← c.periods_at.ensures) (find_over _ (covers_at width a.book.now a.at (asked_by a.detected)) _ _ _ c.find.ensures.ran (λ x b q k. search (rules, tests)))
