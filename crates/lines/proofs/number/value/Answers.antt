use Rattle.std.specs.Prelude.{◌≡◌, length}
use Rattle.std.proofs.Common.{sym, arith}
use Rattle.lines.specs.NumberLaws.{value_zero, value_suc, value_next}
use Rattle.lines.proofs.number.value.Goals as goal

pub loop-b-init : goal.loop-b-init
loop-b-init g c = sym (value_zero _ _ _)

pub overflow_mul-v : goal.overflow_mul-v
overflow_mul-v g c = rw c.loop-b.invariant (omega (arith, (value_next _ _ _ _ c.requires c.loop-b-test.true).1))

pub overflow_sub-b : goal.overflow_sub-b
overflow_sub-b g c = omega (arith, (value_next _ _ _ _ c.requires c.loop-b-test.true).0)

pub overflow_add-v : goal.overflow_add-v
overflow_add-v g c = rw (c.loop-b.invariant, c.from.ensures) (omega (arith, (value_next _ _ _ _ c.requires c.loop-b-test.true).1))

pub loop-b-preserved : goal.loop-b-preserved
loop-b-preserved g c = rw (c.loop-b.invariant, c.from.ensures) (sym (value_suc _ _ _ c.loop-b.b-index))

pub returns : goal.returns
returns g c =
    let e : c.loop-b.b-index ≡ length c.args.s.now = omega arith in
    rw e at c.loop-b.invariant
