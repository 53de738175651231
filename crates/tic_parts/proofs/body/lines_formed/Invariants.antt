use Rattle.std.proofs.Common.{◌≡◌, true}
use Rattle.tic_parts.specs.Reading.{listed_formed_at}
use Rattle.lines.specs.Below.{all_below}
use Rattle.tic_parts.proofs.body.lines_formed.Given as goal

abbrev pub invariant-loop-k : goal.invariant-loop-k
invariant-loop-k l = all_below l.k (listed_formed_at l.tic) ≡ true
