use native.Mathlib.Omega.{arith}
use Prim.Native.Nat.{◌+◌, ◌-◌}
use mathlib.Core.Path.{◌≡◌}
use Rattle.lines.proofs.columns.field.Goals as goal

pub returns : goal.returns
returns c =
    let a = c.args.c in
    let e : a.to - (a.from - 1) ≡ a.to + 1 - a.from = omega arith in
    rw e
