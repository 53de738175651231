-- Demand 3. Assumes nothing.
use Rattle.std.specs.Prelude.{◌≡◌, Bool, true, List, ℕ, replicate}
use Rattle.debits.specs.Credits.{credit_accepted, credit_refused}
use Rattle.debits.specs.Assignment.{Assigned, Exactly}
use Rattle.debits.specs.Sequence.{Step, places_taken, NoneTwice}
use Rattle.debits.proofs.SequenceLaws.{none_taken_twice}
use Rattle.debits.proofs.Demand3Laws.{refused_unassigned, accepted_assigned, accepted_or_refused}

module _ (debits : List ℕ) (credits : ℕ → List ℕ) (reaches : ℕ → Bool) (marks : List ℕ) (k : ℕ) where
  -- a credit that reaches the test is refused exactly if no assignment gives it, and each credit accepted before it in that file, a separate agreeing
  -- debit that was unmarked at the start
  pub demand_3 : reaches k ≡ true → Exactly (credit_refused debits credits reaches marks k ≡ true) (Assigned debits credits reaches marks k → ⊥)
  demand_3 h =
      record {
        only = λ r a. refused_unassigned debits credits reaches marks k r a.place a.assignment;
        whenever = λ none. accepted_or_refused debits credits reaches marks k h (λ a. absurd (none (accepted_assigned debits credits reaches marks k a))) (λ r. r);
      }

  -- and an accepted credit has such an assignment
  pub demand_3_accepted : credit_accepted debits credits reaches marks k ≡ true → Assigned debits credits reaches marks k
  demand_3_accepted a = accepted_assigned debits credits reaches marks k a

-- over a sequence of files that begins with no debit marked, hands the marks on and only adds unmarked debits at the end, no debit is taken twice
pub demand_3_sequence : (steps : List Step) (debits : List ℕ) (count : ℕ) → NoneTwice (places_taken steps (record { debits = debits; marks = replicate count 0 }))
demand_3_sequence steps debits count = none_taken_twice steps (record { debits = debits; marks = replicate count 0 })
