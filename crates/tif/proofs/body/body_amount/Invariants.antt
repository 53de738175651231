use Rattle.std.proofs.Common.{◌≡◌, true}
use Rattle.lines.specs.Below.{all_below, sum_below}
use Rattle.tif.specs.Body.{line_sound_at, amount_at}
use Rattle.tif.proofs.body.body_amount.Given as goal

abbrev pub invariant-loop-k : goal.invariant-loop-k
invariant-loop-k l = (all_below l.k (line_sound_at l.tif) ≡ true) × (l.sum.0 ≡ sum_below l.k (amount_at l.tif))
