-- What the index of the open debits finds, and what a mark changes in it. Assumes nothing.
use Rattle.std.specs.Prelude.{◌≡◌, refl, true, List, ℕ, ◌+◌, ◌<◌, get_or, set}
use Rattle.std.proofs.Math.Path.{ap}
use Rattle.std.proofs.Common.{arith, eq-eqb, ne_eqb, get_or-set_same, get_or-set_other}
use Rattle.std.proofs.Math.ListN.{length, length-set}
use Rattle.lines.specs.BoolLaws.{and_left, and_right}
use Rattle.lines.specs.Spans.{agree_on}
use Rattle.passage.specs.Passage.{credit_spans}
use Rattle.chains.specs.Hash.{hashes, hash_of}
use Rattle.chains.specs.HashLaws.{hash_small, agree_hash}
use Rattle.chains.specs.Ahead.{has, Without, link_at}
use Rattle.chains.specs.AheadLaws.{has_both, chained_skip, chained_more, array_fronted, array_passing}
use Rattle.chains.specs.CutLaws.{chained_cut}
use Rattle.debits.specs.Form.{debit_line}
use Rattle.debits.specs.Taking.{agrees, unmarked, free_for}
use Rattle.debits.specs.Open.{debit_hash, OpenFrom, Opened, LeadsTo}

pub hash_within : (debits : List ℕ) (j : ℕ) → debit_hash debits j < hashes
unfolding debit_hash
hash_within debits j = hash_small credit_spans (debit_line debits j)

-- a debit that agrees has the credit's hash
agrees_hash : (debits credit : List ℕ) (j : ℕ) → agrees debits credit j ≡ true → debit_hash debits j ≡ hash_of credit_spans credit
unfolding agrees agree_on debit_hash
agrees_hash debits credit j e = agree_hash credit_spans (debit_line debits j) credit_spans credit e refl

-- only a free debit of the credit's hash is free for it
pub free_has : (debits marks credit : List ℕ) (j : ℕ) → free_for debits marks credit j ≡ true → has (debit_hash debits) (unmarked marks) (hash_of credit_spans credit) j ≡ true
unfolding free_for
free_has debits marks credit j e =
    has_both (length marks) (debit_hash debits) (unmarked marks) (hash_of credit_spans credit) j
    (and_left (unmarked marks j) (agrees debits credit j) e)
    (agrees_hash debits credit j (and_right (unmarked marks j) (agrees debits credit j) e))

-- a mark set
mark_without : (marks : List ℕ) (j : ℕ) → j < length marks → Without j (unmarked marks) (unmarked (set marks j 1))
unfolding unmarked
mark_without marks j l = record {
  gone = rw (get_or-set_same marks j 1 0 l);
  same = (λ i ne. rw (get_or-set_other marks j i 1 0 ne));
}

-- a marked debit stays out, an unmarked one goes in front of its chain
module _ (debits marks links : List ℕ) (k : ℕ) (x : OpenFrom debits marks (k + 1) links) where
  pub open_skip : (get_or marks k 0 ≡ 0 → ⊥) → OpenFrom debits marks k links
  unfolding unmarked
  open_skip ne = record { long = x.long; chained = chained_skip (length marks) (debit_hash debits) (unmarked marks) k (link_at links) (ne_eqb (get_or marks k 0) 0 ne) x.chained }

  pub open_more : (links' : List ℕ) → k < length marks → get_or marks k 0 ≡ 0
      → links' ≡ set (set links (hashes + k) (get_or links (debit_hash debits k) 0)) (debit_hash debits k) k → OpenFrom debits marks k links'
  unfolding unmarked
  open_more links' l e g =
      let w = array_fronted links links' (length marks) (unmarked marks) (debit_hash debits k) k (hash_within debits k) (omega (arith, x.long)) g in
      record {
        long = omega (arith, x.long, ap length g, length-set (set links (hashes + k) (get_or links (debit_hash debits k) 0)) (debit_hash debits k) k, length-set links (hashes + k) (get_or links (debit_hash debits k) 0));
        chained = chained_more (length marks) (debit_hash debits) (unmarked marks) k (link_at links) (link_at links') l (eq-eqb (get_or marks k 0) 0 e) (hash_within debits k) x.chained w;
      }

-- the debit taken is marked, and its link cut
pub opened_cut : (debits marks credit links links' : List ℕ) (q j : ℕ) → Opened debits marks links → LeadsTo debits marks credit links q → j ≡ link_at links q
    → j < length marks → links' ≡ set links q (get_or links (hashes + j) 0) → Opened debits (set marks j 1) links'
opened_cut debits marks credit links links' q j x t e l g =
    record {
      long = omega (arith, x.long, ap length g, length-set links q (get_or links (hashes + j) 0), length-set marks j 1);
      chained =
          rw (length-set marks j 1)
          (chained_cut (length marks) (debit_hash debits) (unmarked marks) (unmarked (set marks j 1)) j (mark_without marks j l) l (link_at links) (link_at links')
          (hash_of credit_spans credit) q x.chained t.stands e (array_passing links links' q j (omega (arith, x.long, t.stands.within)) g));
    }
