use Rattle.std.proofs.Common.{arith, ◌≡◌}
use Rattle.lines.specs.BelowLaws.{some_zero}
use Rattle.book.specs.Layout.{width, agreements}
use Rattle.cover.specs.FoundLaws.{next_none, next_some, all_none}
use Rattle.cover.proofs.cover.first_cover.Goals as goal

pub loop-i-init : goal.loop-i-init
loop-i-init c = some_zero _

pub returns-in-Some : goal.returns-in-Some
returns-in-Some c = next_some width _ _ c.loop-i.i _ c.loop-i.invariant (omega arith) c.in-Some.ensures

pub loop-i-preserved : goal.loop-i-preserved
loop-i-preserved c = next_none width _ _ c.loop-i.i c.loop-i.invariant (omega arith) c.in_default.ensures

pub returns : goal.returns
returns c =
    let e : c.loop-i.i ≡ agreements c.args.book.now = omega arith in
    all_none width _ _ (rw e at c.loop-i.invariant)
