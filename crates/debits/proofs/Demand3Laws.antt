-- Demand 3 for one file, its two directions: a refused credit has no assignment, by counting the credits and debits of its kind; an accepted credit
-- has one, the debits that were taken. Assumes nothing.
use Rattle.std.specs.Prelude.{◌≡◌, Bool, ◌&&◌, ◌||◌, List, ℕ, suc, ◌<◌, length, get_or, ltb}
use Rattle.std.proofs.Math.Path.{refl, ap}
use Rattle.std.proofs.Common.{sym, ◌∙◌, arith}
use Rattle.std.proofs.Math.Bool.{true, false}
use Rattle.std.proofs.Math.Dec.{eqb}
use borrow.Author.Tests.{eqb-true, eq-eqb, ne_eqb, lt-ltb}
use Rattle.lines.specs.BoolLaws.{and_true, and_left, and_right, or_true_left}
use Rattle.debits.specs.Taking.{agrees, unmarked, free_for, took_debit}
use Rattle.debits.specs.Credits.{marks_after, taken_at, place_at, credit_accepted, credit_refused}
use Rattle.debits.proofs.AcceptedLaws.{accepted_is, refused_is, unmarked_earlier, places_apart}
use Rattle.debits.specs.Counting.{count_suc, count_same, count_none, one_some, pigeonhole}
use Rattle.debits.proofs.Balance.{same_kind, agrees_kind, accepted_of_kind, balance}
use Rattle.debits.specs.Assignment.{counts, Assignment, Assigned}

module _ (debits : List ℕ) (credits : ℕ → List ℕ) (reaches : ℕ → Bool) (marks : List ℕ) (k : ℕ) where
  abbrev accepted : ℕ → Bool
  accepted i = credit_accepted debits credits reaches marks i

  abbrev counted : ℕ → Bool
  counted i = counts debits credits reaches marks k i

  -- ---- which credits count
  counts_itself : counted k ≡ true
  unfolding counts
  counts_itself = or_true_left (eqb k k) (ltb k k && accepted k) (eq-eqb k k refl)

  counts_before : (i : ℕ) → i < k → counted i ≡ accepted i
  unfolding counts
  counts_before i h = rw (ne_eqb i k (λ e. omega arith), lt-ltb i k h)

  -- ---- a refused credit has no assignment
  module _ (f : ℕ → ℕ) (a : Assignment debits credits reaches marks k f) where
    -- the credits that count and are of line k's kind
    unfoldable of_kind : ℕ → Bool
    of_kind i = counted i && same_kind (credits i) (credits k)

    into : (i : ℕ) → of_kind i ≡ true → (f i < length marks) × (free_for debits marks (credits k) (f i) ≡ true)
    unfolding of_kind free_for unmarked
    into i e =
        let c = and_left (counted i) (same_kind (credits i) (credits k)) e in
        let s = and_right (counted i) (same_kind (credits i) (credits k)) e in (
          a.there i c,
          and_true (eqb (get_or marks (f i) 0) 0) (agrees debits (credits k) (f i))
              (eq-eqb (get_or marks (f i) 0) 0 (a.free i c))
              (agrees_kind debits (credits i) (credits k) (f i) (a.agreeing i c) ∙ s),
        )

    kind_itself : of_kind k ≡ true
    unfolding of_kind
    kind_itself =
        let g = a.agreeing k counts_itself in
        and_true (counted k) (same_kind (credits k) (credits k)) counts_itself (sym (agrees_kind debits (credits k) (credits k) (f k) g) ∙ g)

    kind_before : (i : ℕ) → i < k → of_kind i ≡ accepted_of_kind debits credits reaches marks (credits k) i
    unfolding of_kind accepted_of_kind
    kind_before i h = rw (counts_before i h)

    counts_apart : (i j : ℕ) → of_kind i ≡ true → of_kind j ≡ true → f i ≡ f j → i ≡ j
    unfolding of_kind
    counts_apart i j c d e = a.apart i j (and_left (counted i) (same_kind (credits i) (credits k)) c) (and_left (counted j) (same_kind (credits j) (credits k)) d) e

    none_left : credit_refused debits credits reaches marks k ≡ true → ⊥
    none_left r =
        omega (
          arith,
          pigeonhole of_kind (free_for debits marks (credits k)) f (suc k) (length marks) (λ i h. into i) (λ i j h l. counts_apart i j),
          count_suc of_kind k,
          one_some of_kind k kind_itself,
          count_same of_kind (accepted_of_kind debits credits reaches marks (credits k)) k kind_before,
          balance debits credits reaches marks (credits k) k,
          count_none (free_for debits (marks_after debits credits reaches marks k) (credits k)) (length marks) (refused_is debits credits reaches marks k r),
        )

  pub refused_unassigned : credit_refused debits credits reaches marks k ≡ true → (f : ℕ → ℕ) → Assignment debits credits reaches marks k f → ⊥
  refused_unassigned r f a = none_left f a r

  -- ---- an accepted credit has one: each credit's debit is the one that it took
  counts_accepted : accepted k ≡ true → (i : ℕ) → counted i ≡ true → accepted i ≡ true
  unfolding counts
  counts_accepted a i = go (eqb i k) refl
    where
      go : (b : Bool) → eqb i k ≡ b → (b || (ltb i k && accepted i)) ≡ true → accepted i ≡ true
      go true e c = ap accepted (eqb-true i k e) ∙ a
      go false e c = and_right (ltb i k) (accepted i) c

  pub accepted_assigned : accepted k ≡ true → Assigned debits credits reaches marks k
  unfolding unmarked marks_after
  accepted_assigned a =
      let was : (i : ℕ) → counted i ≡ true → accepted i ≡ true = counts_accepted a in
      record {
        place = place_at debits credits reaches marks;
        assignment =
            record {
              there = λ i c. (accepted_is debits credits reaches marks i (was i c)).within;
              agreeing = λ i c. (accepted_is debits credits reaches marks i (was i c)).agreeing;
              free = λ i c. eqb-true (get_or marks (place_at debits credits reaches marks i) 0) 0 (unmarked_earlier debits credits reaches marks 0 i (omega arith) (place_at debits credits reaches marks i) (accepted_is debits credits reaches marks i (was i c)).unmarked_then);
              apart = λ i j c d. places_apart debits credits reaches marks i j (was i c) (was j d);
            };
      }

  -- a credit that reaches the test is accepted or refused
  pub accepted_or_refused : {A : Type 0} → reaches k ≡ true → (accepted k ≡ true → A) → (credit_refused debits credits reaches marks k ≡ true → A) → A
  unfolding credit_accepted credit_refused
  accepted_or_refused {A = A} h taken none = go (took_debit (taken_at debits credits reaches marks k)) refl
    where
      go : (b : Bool) → took_debit (taken_at debits credits reaches marks k) ≡ b → A
      go true e = taken (rw (h, e))
      go false e = none (rw (h, e))
