use Rattle.std.proofs.Common.{◌≡◌}
use Rattle.judging.specs.Sums.{sums_below}
use Rattle.judging.proofs.sums.sums_of.Given as goal

abbrev pub invariant-loop-k : goal.invariant-loop-k
invariant-loop-k l = l.sums ≡ sums_below l.tif l.words l.k
