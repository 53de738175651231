use Rattle.std.proofs.Common.{rules}
use Rattle.lines.specs.OverRange.{all_over}
use Rattle.lines.specs.Tests.{tests}
use Rattle.book.specs.Layout.{width}
use Rattle.book.specs.Form.{period_sound_at, periods_sound}
use Rattle.book.proofs.form.periods_sound.Goals as goal

pub returns : goal.returns
unfolding periods_sound
returns c =
    let a = c.args in
    all_over _ (period_sound_at width a.book.now a.at a.n) _ _ _ c.all.ensures.ran (λ x b q k. search (rules, tests))
