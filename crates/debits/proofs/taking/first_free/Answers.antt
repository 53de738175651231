use Rattle.std.proofs.Common.{rules}
use Rattle.lines.specs.OverRange.{find_over}
use Rattle.debits.specs.Taking.{free_for}
use Rattle.debits.proofs.taking.first_free.Goals as goal

pub returns : goal.returns
returns c =
    let a = c.args in
    find_over _ (free_for a.debits.now a.marks.now a.credit.now) _ _ _ c.find.ensures.ran (λ x b q k. search rules)
