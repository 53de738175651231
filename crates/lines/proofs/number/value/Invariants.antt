use Rattle.std.specs.Prelude.{◌≡◌}
use Rattle.lines.specs.Number.{value_below}
use Rattle.lines.proofs.number.value.Given as goal

abbrev pub invariant-loop-b : goal.invariant-loop-b
invariant-loop-b g l = l.v ≡ value_below g.row.BASE g.row.NOUGHT l.b-index l.s
