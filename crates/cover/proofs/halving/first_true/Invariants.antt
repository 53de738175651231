use Rattle.std.proofs.Common.{◌-◌}
use Rattle.cover.specs.Rising.{FirstWithin}
use Rattle.cover.proofs.halving.first_true.Given as goal

abbrev pub invariant-loop-low : goal.invariant-loop-low
invariant-loop-low g l = FirstWithin l.fn.n g.test l.low l.high

abbrev pub decreases-loop-low : goal.decreases-loop-low
decreases-loop-low g l = l.high - l.low
