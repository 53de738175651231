-- What is known of the credits of one file. Assumes nothing.
use Rattle.std.specs.Prelude.{◌≡◌, Bool, not, ◌&&◌, List, get_or, set, eqb}
use Rattle.std.proofs.Math.Path.{refl}
use Rattle.std.proofs.Common.{sym, add-one, length-set, get_or-set_same, get_or-set_other}
use Rattle.std.proofs.Math.Bool.{true, false, cond}
use Prim.Native.Nat.{ℕ, zero, suc, ◌+◌, ◌<◌}
use Rattle.std.proofs.Math.ListN.{length}
use borrow.Author.Tests.{eqb-true, eqb-false}
use Rattle.lines.specs.BoolLaws.{and_one, and_false_right}
use Rattle.debits.specs.Taking.{agrees, unmarked, taken, took_debit, marks_then}
use Rattle.debits.specs.TakingLaws.{marks_then_lem, took_none}
use Rattle.debits.specs.Credits.{marks_after, taken_at, place_at, credit_accepted, credit_refused}

-- a mark that is set is the only one that is no longer 0
pub unmarked_set : (marks : List ℕ) (at : ℕ) → at < length marks → (j : ℕ) → unmarked (set marks at 1) j ≡ (unmarked marks j && not (eqb j at))
unfolding unmarked
unmarked_set marks at h j = go (eqb j at) refl
  where
    go : (b : Bool) → eqb j at ≡ b → eqb (get_or (set marks at 1) j 0) 0 ≡ (eqb (get_or marks j 0) 0 && not b)
    go true e = rw (eqb-true j at e, get_or-set_same marks at 1 0 h) (sym (and_false_right (eqb (get_or marks at 0) 0) false refl))
    go false e = rw (get_or-set_other marks at j 1 0 (eqb-false j at e)) (sym (and_one (eqb (get_or marks j 0) 0)))

module _ (debits : List ℕ) (credits : ℕ → List ℕ) (reaches : ℕ → Bool) (marks : List ℕ) where
  -- the marks before line k
  abbrev at : ℕ → List ℕ
  at k = marks_after debits credits reaches marks k

  abbrev place : ℕ → ℕ
  place k = place_at debits credits reaches marks k

  abbrev accepted : ℕ → Bool
  accepted k = credit_accepted debits credits reaches marks k

  abbrev refused : ℕ → Bool
  refused k = credit_refused debits credits reaches marks k

  abbrev took : ℕ → Bool
  took k = took_debit (taken debits (at k) (credits k))

  pub after_zero : at 0 ≡ marks
  unfolding marks_after
  after_zero = refl

  -- the code's `k + 1`
  pub after_suc : (k : ℕ) → at (k + 1) ≡ cond (reaches k) (marks_then (at k) (taken_at debits credits reaches marks k)) (at k)
  unfolding marks_after taken_at
  after_suc k = rw (add-one k)

  pub after_length : (k : ℕ) → length (at k) ≡ length marks
  unfolding marks_after
  after_length zero = refl
  after_length (suc k) = go (reaches k) (after_length k)
    where
      go : (b : Bool) → length (at k) ≡ length marks → length (cond b (marks_then (at k) (taken debits (at k) (credits k))) (at k)) ≡ length marks
      go true e = rw (marks_then_lem debits (at k) (credits k), length-set) e
      go false e = e

  -- an accepted credit: the debit that it takes was free for it, and is marked then
  pub record Accepted (k : ℕ) : Type 0 where
    pub within : place k < length marks
    pub unmarked_then : unmarked (at k) (place k) ≡ true
    pub agreeing : agrees debits (credits k) (place k) ≡ true
    pub next : at (suc k) ≡ set (at k) (place k) 1

  -- a line that is not accepted leaves the marks as they are
  pub skipped_is : (k : ℕ) → accepted k ≡ false → at (suc k) ≡ at k
  unfolding credit_accepted taken_at marks_after
  skipped_is k = go (reaches k)
    where
      go : (b : Bool) → (b && took k) ≡ false → cond b (marks_then (at k) (taken debits (at k) (credits k))) (at k) ≡ at k
      go true e = (took_none debits (at k) (credits k) e).0
      go false e = refl
