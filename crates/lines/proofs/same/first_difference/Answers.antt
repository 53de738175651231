use Rattle.std.proofs.Common.{rules}
use Rattle.lines.specs.OverRange.{find_over}
use Rattle.lines.specs.Same.{differ_at}
use Rattle.lines.proofs.same.first_difference.Goals as goal

pub returns : goal.returns
unfolding differ_at
returns c =
    let a = c.args in
    find_over _ (differ_at a.a.now a.b.now) _ _ _ c.find.ensures.ran (λ x b q k. search rules)
