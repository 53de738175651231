use Prim.Native.Nat.{◌+◌, ◌-◌}
use lib.ListN.{length}
use Rattle.passage.specs.Passage.{credit_spans}
use Rattle.chains.specs.Hash.{hashes, hash_of}
use Rattle.chains.specs.Ahead.{OnWay}
use Rattle.debits.specs.Taking.{unmarked, free_for}
use Rattle.debits.specs.Open.{debit_hash}
use Rattle.debits.proofs.open.link_to.Given as goal

abbrev pub invariant-loop-j : goal.invariant-loop-j
invariant-loop-j l =
    OnWay (length l.marks) (debit_hash l.debits) (unmarked l.marks) (free_for l.debits l.marks l.credit) (hash_of credit_spans l.credit) l.at

abbrev pub decreases-loop-j : goal.decreases-loop-j
decreases-loop-j l = hashes + length l.marks - l.at
