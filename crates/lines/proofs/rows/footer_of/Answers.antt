use native.Mathlib.Omega.{arith}
use Prim.Native.Nat.{◌+◌, ◌-◌}
use mathlib.Core.Path.{◌≡◌}
use Rattle.lines.specs.Rows.{footer_of, line_place}
use Rattle.lines.proofs.rows.footer_of.Goals as goal

pub returns : goal.returns
unfolding footer_of
returns c =
    let a = c.args in
    let e : line_place a.layout a.n + a.layout.footer - line_place a.layout a.n ≡ a.layout.footer = omega arith in
    rw e
