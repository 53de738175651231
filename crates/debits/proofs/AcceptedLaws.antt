-- The debits that accepted credits take: each was free, and no two take the same one. Assumes nothing.
use Rattle.std.specs.Prelude.{◌≡◌, Bool, not, ◌&&◌, List, eqb}
use Rattle.std.proofs.Math.Path.{refl}
use Rattle.std.proofs.Common.{sym, ap, ◌∙◌, ⊎_elim, true≢false, eq-or-lt_of_le, arith}
use Rattle.std.proofs.Math.Bool.{true, false}
use Prim.Native.Nat.{ℕ, zero, suc, ◌≤◌, ◌<◌}
use Rattle.std.proofs.Math.ListN.{length}
use borrow.Author.Tests.{eq-eqb, not-true}
use Rattle.lines.specs.BoolLaws.{and_left, and_right, and_false_right}
use Rattle.debits.specs.Taking.{agrees, unmarked, free_for, taken, took_debit}
use Rattle.debits.specs.TakingLaws.{marks_then_lem, took_some, took_none}
use Rattle.debits.specs.Credits.{marks_after, taken_at, place_at, credit_accepted, credit_refused}
use Rattle.debits.specs.CreditsLaws.{unmarked_set, after_length, skipped_is, Accepted}

module _ (debits : List ℕ) (credits : ℕ → List ℕ) (reaches : ℕ → Bool) (marks : List ℕ) where
  -- the marks before line k
  abbrev at : ℕ → List ℕ
  at k = marks_after debits credits reaches marks k

  abbrev place : ℕ → ℕ
  place k = place_at debits credits reaches marks k

  abbrev accepted : ℕ → Bool
  accepted k = credit_accepted debits credits reaches marks k

  abbrev refused : ℕ → Bool
  refused k = credit_refused debits credits reaches marks k

  abbrev took : ℕ → Bool
  took k = took_debit (taken debits (at k) (credits k))

  pub accepted_is : (k : ℕ) → accepted k ≡ true → Accepted debits credits reaches marks k
  unfolding credit_accepted taken_at place_at marks_after free_for
  accepted_is k e =
      let reach = and_left (reaches k) (took k) e in
      let t = took_some debits (at k) (credits k) (and_right (reaches k) (took k) e) in
      record {
        within = rw (after_length debits credits reaches marks k) at t.0;
        unmarked_then = and_left (unmarked (at k) (place k)) (agrees debits (credits k) (place k)) t.1;
        agreeing = and_right (unmarked (at k) (place k)) (agrees debits (credits k) (place k)) t.1;
        next = rw reach (marks_then_lem debits (at k) (credits k));
      }

  -- a refused credit found no free debit
  pub refused_is : (k : ℕ) → refused k ≡ true → (j : ℕ) → j < length marks → free_for debits (at k) (credits k) j ≡ false
  unfolding credit_refused taken_at
  refused_is k e j h =
      let none = not-true (took k) (and_right (reaches k) (not (took k)) e) in
      (took_none debits (at k) (credits k) none).1 j (rw (after_length debits credits reaches marks k) h)

  -- after line k a debit is unmarked where it was and is not the one that line k took
  taken_apart : (k : ℕ) → accepted k ≡ true → (j : ℕ) → unmarked (at (suc k)) j ≡ (unmarked (at k) j && not (eqb j (place k)))
  taken_apart k a j =
      let t = accepted_is k a in
      rw t.next (unmarked_set (at k) (place k) (rw (after_length debits credits reaches marks k) t.within) j)

  unmarked_before : (k j : ℕ) → unmarked (at (suc k)) j ≡ true → unmarked (at k) j ≡ true
  unmarked_before k j e = go (accepted k) refl
    where
      go : (b : Bool) → accepted k ≡ b → unmarked (at k) j ≡ true
      go true a = and_left (unmarked (at k) j) (not (eqb j (place k))) (sym (taken_apart k a j) ∙ e)
      go false a = ap (λ (m : List ℕ). unmarked m j) (sym (skipped_is debits credits reaches marks k a)) ∙ e

  -- a debit that is unmarked before line k was unmarked before each line before it
  pub unmarked_earlier : (i k : ℕ) → i ≤ k → (j : ℕ) → unmarked (at k) j ≡ true → unmarked (at i) j ≡ true
  unmarked_earlier i zero h j e = let z : i ≡ 0 = omega arith in rw z e
  unmarked_earlier i (suc k) h j e =
      ⊎_elim
      (λ s. rw s e)
      (λ l. unmarked_earlier i k (omega arith) j (unmarked_before k j e))
      (eq-or-lt_of_le h)

  -- a later accepted credit takes another debit
  taken_once : (i k : ℕ) → i < k → accepted i ≡ true → accepted k ≡ true → place i ≡ place k → ⊥
  taken_once i k h a b e =
      let u = unmarked_earlier (suc i) k h (place k) (accepted_is k b).unmarked_then in
      let v = taken_apart i a (place k) ∙ and_false_right (unmarked (at i) (place k)) (not (eqb (place k) (place i))) (ap not (eq-eqb (place k) (place i) (sym e))) in
      true≢false (sym u ∙ v)

  -- two accepted credits take two debits
  pub places_apart : (i k : ℕ) → accepted i ≡ true → accepted k ≡ true → place i ≡ place k → i ≡ k
  places_apart i k a b e =
      let l : i < k → ⊥ = λ h. taken_once i k h a b e in
      let r : k < i → ⊥ = λ h. taken_once k i h b a (sym e) in
      omega arith
