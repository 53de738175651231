use Rattle.std.proofs.Common.{◌≡◌}
use Rattle.judge.proofs.RecordsSoFar.{so_far}
use Rattle.judge.proofs.records.fill.Given as goal

-- the records of the first k lines stand in front, the rest is as it was
abbrev pub invariant-loop-k : goal.invariant-loop-k
invariant-loop-k l = l.records ≡ so_far l.tif l.words l.initial.records l.k
