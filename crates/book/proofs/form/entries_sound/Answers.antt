use Rattle.std.proofs.Common.{rules}
use Rattle.lines.specs.OverRange.{all_over}
use Rattle.lines.specs.Tests.{tests}
use Rattle.book.specs.Form.{entry_sound_at, entries_sound}
use Rattle.book.proofs.form.entries_sound.Goals as goal

pub returns : goal.returns
unfolding entries_sound
returns c =
    rw (← c.agreements_of.ensures) (all_over _ (entry_sound_at c.args.book.now) _ _ _ c.all.ensures.ran (λ x b q k. search (rules, tests)))
