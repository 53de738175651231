use Rattle.std.specs.Prelude.{◌≡◌}
use Rattle.lines.specs.Below.{all_below}
use Rattle.lines.specs.Class.{byte_is}
use Rattle.lines.specs.Ranges.{in_ranges}
use Rattle.lines.proofs.class.all_of.Given as goal

abbrev pub invariant-loop-b : goal.invariant-loop-b
invariant-loop-b l = l.all ≡ all_below l.b-index (byte_is (in_ranges l.ranges) l.s)
