use native.Mathlib.Omega.{arith}
use Prim.Native.Nat.{◌+◌, ◌-◌}
use mathlib.Core.Path.{◌≡◌}
use borrow.Author.Rules.{rules}
use Rattle.chains.specs.Ahead.{link_at}
use Rattle.chains.specs.AheadLaws.{chained_none}
use Rattle.debits.proofs.open.index_open.Goals as goal

pub loop-k-init : goal.loop-k-init
unfolding link_at
loop-k-init c =
    (record { long = omega arith; chained = chained_none _ _ _ _ c.clear_ahead.ensures }, search rules)

pub enter_open-requires : goal.enter_open-requires
enter_open-requires c =
    let e : c.loop-k.k ≡ c.loop-k.k - 1 + 1 = omega arith in
    record { listed = (search rules, omega arith); open_from = rw e at c.loop-k.invariant.0 }

pub returns : goal.returns
returns c =
    let e : c.loop-k.k ≡ 0 = omega arith in
    rw e at c.loop-k.invariant.0
