use native.Mathlib.Omega.{arith}
use Prim.Native.Nat.{◌+◌, ◌-◌}
use mathlib.Core.Path.{◌≡◌}
use Rattle.book.specs.Layout.{body_head}
use Rattle.book.proofs.layout.body_head.Goals as goal

pub returns : goal.returns
unfolding body_head
returns c =
    let a = c.args in
    let e : a.at + 14 - a.at ≡ 14 = omega arith in
    rw e
