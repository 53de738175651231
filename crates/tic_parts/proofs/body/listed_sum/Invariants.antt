use Rattle.std.proofs.Common.{◌≡◌}
use Rattle.tic_parts.specs.Reading.{listed_amount}
use Rattle.lines.specs.Below.{sum_below}
use Rattle.tic_parts.proofs.body.listed_sum.Given as goal

abbrev pub invariant-loop-k : goal.invariant-loop-k
invariant-loop-k l = l.sum.0 ≡ sum_below l.k (listed_amount l.tic)
