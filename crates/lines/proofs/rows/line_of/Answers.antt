use native.Mathlib.Omega.{arith}
use Prim.Native.Nat.{◌+◌, ◌-◌}
use mathlib.Core.Path.{◌≡◌}
use Rattle.lines.specs.Rows.{line_of, line_place}
use Rattle.lines.proofs.rows.line_of.Goals as goal

pub returns : goal.returns
unfolding line_of
returns c =
    let a = c.args in
    let e : line_place a.layout a.k + a.layout.line - line_place a.layout a.k ≡ a.layout.line = omega arith in
    rw e
