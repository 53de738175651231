use Rattle.std.specs.Prelude.{◌≡◌, length}
use Rattle.std.proofs.Common.{sym, ◌∙◌, arith}
use Rattle.lines.specs.BelowLaws.{all_zero, all_suc}
use Rattle.lines.specs.Class.{byte_is}
use Rattle.lines.specs.ClassLaws.{all_of_by}
use Rattle.lines.proofs.class.all_of.Goals as goal

pub loop-b-init : goal.loop-b-init
loop-b-init c = sym (all_zero _)

pub loop-b-preserved : goal.loop-b-preserved
unfolding byte_is
loop-b-preserved c = rw (c.loop-b.invariant, c.contain-all.ensures) (sym (all_suc _ c.loop-b.b-index))

pub returns : goal.returns
returns c =
    let e : c.loop-b.b-index ≡ length c.args.s.now = omega arith in
    rw e at c.loop-b.invariant ∙ sym (all_of_by _ _ c.ranges_of-ranges.ensures _)
