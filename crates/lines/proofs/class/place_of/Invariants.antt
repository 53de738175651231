use Rattle.std.specs.Prelude.{◌≡◌, false}
use Rattle.lines.specs.Below.{some_below}
use Rattle.lines.specs.Class.{byte_is}
use Rattle.lines.specs.Ranges.{in_ranges}
use Rattle.lines.proofs.class.place_of.Given as goal

abbrev pub invariant-loop-i : goal.invariant-loop-i
invariant-loop-i l = some_below l.i (byte_is (in_ranges l.ranges) l.s) ≡ false
