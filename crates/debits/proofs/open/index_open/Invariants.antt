use mathlib.Core.Path.{◌≡◌}
use lib.ListN.{length}
use Rattle.debits.specs.Open.{OpenFrom}
use Rattle.debits.proofs.open.index_open.Given as goal

abbrev pub invariant-loop-k : goal.invariant-loop-k
invariant-loop-k l = OpenFrom l.debits l.marks l.k l.links × (length l.links ≡ length l.initial.links)
