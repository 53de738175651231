use Rattle.std.proofs.Common.{arith, sym, ◌∙◌}
use Rattle.cover.specs.RisingLaws.{search_start, search_high, search_end}
use Rattle.cover.proofs.halving.first_true.Goals as goal

pub loop-low-init : goal.loop-low-init
loop-low-init g c = search_start _ _

pub loop-low-preserved : goal.loop-low-preserved
loop-low-preserved g c =
    let i = c.loop-low.invariant in
    let within = i.within in
    search_high _ _ c.requires.1.1.1 c.loop-low.low c.loop-low.high _ i (omega arith) (omega arith)
    (sym (c.requires.1.1.0 _ _ (omega arith) c.holds.ensures) ∙ c.if-holds.false)

pub returns : goal.returns
returns g c = search_end _ _ c.loop-low.low c.loop-low.high c.loop-low.invariant (omega arith)
