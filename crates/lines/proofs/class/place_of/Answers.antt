use Rattle.std.specs.Prelude.{◌≡◌, length}
use Rattle.std.proofs.Common.{sym, ◌∙◌, arith}
use Rattle.lines.specs.BelowLaws.{some_zero, some_more, first_hit, first_none}
use Rattle.lines.specs.Class.{byte_is}
use Rattle.lines.specs.ClassLaws.{place_of_by}
use Rattle.lines.proofs.class.place_of.Goals as goal

pub loop-i-init : goal.loop-i-init
loop-i-init c = some_zero _

pub returns-then-contain : goal.returns-then-contain
unfolding byte_is
returns-then-contain c =
    sym (place_of_by _ _ c.ranges_of-ranges.ensures _ ∙ first_hit _ _ c.loop-i.i (omega arith) c.loop-i.invariant (sym c.contain.ensures ∙ c.if-contain.true))

pub loop-i-preserved : goal.loop-i-preserved
unfolding byte_is
loop-i-preserved c = some_more _ c.loop-i.i c.loop-i.invariant (sym c.contain.ensures ∙ c.if-contain.false)

pub returns : goal.returns
returns c =
    let s = c.args.s.now in
    let e : c.loop-i.i ≡ length s = omega arith in
    sym (place_of_by _ _ c.ranges_of-ranges.ensures _ ∙ first_none _ (length s) (rw e at c.loop-i.invariant))
