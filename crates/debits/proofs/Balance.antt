-- Credits and debits of one kind: those that hold the same texts in the columns that are compared. As many debits of a kind as its accepted credits
-- took are missing from the free ones. Assumes nothing.
use Rattle.std.specs.Prelude.{◌≡◌, Bool, not, ◌&&◌, List, length, set, eqb}
use Rattle.std.proofs.Math.Path.{refl}
use Rattle.std.proofs.Common.{sym, ap}
use Rattle.std.proofs.Math.Bool.{true, false}
use Prim.Native.Nat.{ℕ, zero, suc, ◌+◌, ◌<◌}
use native.Mathlib.Omega.{arith}
use Rattle.lines.specs.Below.{all_below, sum_below}
use Rattle.lines.specs.BelowLaws.{all_at}
use Rattle.lines.specs.BoolLaws.{and_swap, and_false_left}
use Rattle.lines.specs.Same.{same}
use Rattle.lines.specs.SameLaws.{same_is}
use Rattle.lines.specs.Spans.{span_count, span_of, span_agrees, agree_across, agree_on}
use Rattle.passage.specs.Passage.{credit_spans}
use Rattle.debits.specs.Form.{debit_line}
use Rattle.debits.specs.Taking.{agrees, unmarked, free_for}
use Rattle.debits.specs.Credits.{marks_after, place_at, credit_accepted}
use Rattle.debits.specs.CreditsLaws.{unmarked_set, skipped_is, after_length}
use Rattle.debits.proofs.AcceptedLaws.{accepted_is}
use Rattle.debits.specs.Counting.{count_below, except, count_suc, count_same, count_except, one_none, one_same}
use Rattle.lines.specs.declared.columns.Columns.{Columns}

-- ---- agreement is that the texts of the spans are equal, so what agrees with one of two that agree agrees with the other
all_same : (p q : ℕ → Bool) (n : ℕ) → ((i : ℕ) → i < n → p i ≡ q i) → all_below n p ≡ all_below n q
unfolding all_below
all_same p q zero e = refl
all_same p q (suc n) e = rw (e n (omega arith), all_same p q n (λ i h. e i (omega arith)))

pub agree_through : (spans : List Columns) (a b c : List ℕ) → agree_on spans a b ≡ true → agree_on spans a c ≡ agree_on spans b c
unfolding agree_on agree_across span_agrees
agree_through spans a b c e =
    all_same (span_agrees spans a spans c) (span_agrees spans b spans c) (span_count spans)
    (λ m h. ap (λ (s : List ℕ). same s (span_of spans c m)) (same_is (span_of spans a m) (span_of spans b m) (all_at (span_agrees spans a spans b) (span_count spans) e m h)))

-- two credits are of one kind
unfoldable pub same_kind : List ℕ → List ℕ → Bool
same_kind a b = agree_on credit_spans a b

-- a debit that agrees with one credit agrees with another just if the two are of one kind
pub agrees_kind : (debits a b : List ℕ) (j : ℕ) → agrees debits a j ≡ true → agrees debits b j ≡ same_kind a b
unfolding agrees same_kind
agrees_kind debits a b j e = agree_through credit_spans (debit_line debits j) a b e

-- a debit that is taken is free for no credit, and every other debit is as free as before
pub free_set : (debits marks credit : List ℕ) (at : ℕ) → at < length marks → (j : ℕ) → free_for debits (set marks at 1) credit j ≡ except (free_for debits marks credit) at j
unfolding free_for except
free_set debits marks credit at h j = rw (unmarked_set marks at h j) (and_swap (unmarked marks j) (not (eqb j at)) (agrees debits credit j))

module _ (debits : List ℕ) (credits : ℕ → List ℕ) (reaches : ℕ → Bool) (marks : List ℕ) (kind : List ℕ) where
  abbrev at : ℕ → List ℕ
  at k = marks_after debits credits reaches marks k

  abbrev place : ℕ → ℕ
  place k = place_at debits credits reaches marks k

  abbrev accepted : ℕ → Bool
  accepted k = credit_accepted debits credits reaches marks k

  -- line i was accepted and is of that kind
  unfoldable pub accepted_of_kind : ℕ → Bool
  accepted_of_kind i = accepted i && same_kind (credits i) kind

  rejected : (k : ℕ) → accepted k ≡ false → accepted_of_kind k ≡ false
  unfolding accepted_of_kind
  rejected k a = and_false_left (accepted k) (same_kind (credits k) kind) a

  -- an accepted credit takes a debit of the kind just if it is of the kind
  takes_kind : (k : ℕ) → accepted k ≡ true → accepted_of_kind k ≡ free_for debits (at k) kind (place k)
  unfolding accepted_of_kind free_for
  takes_kind k a =
      let t = accepted_is debits credits reaches marks k a in
      rw (a, t.unmarked_then) (sym (agrees_kind debits (credits k) kind (place k) t.agreeing))

  -- the debits of the kind that are free after an accepted credit: those free before it but the one that it took
  fewer : (k : ℕ) → accepted k ≡ true
      → count_below (length marks) (free_for debits (at (suc k)) kind) ≡ count_below (length marks) (except (free_for debits (at k) kind) (place k))
  fewer k a =
      let t = accepted_is debits credits reaches marks k a in
      count_same (free_for debits (at (suc k)) kind) (except (free_for debits (at k) kind) (place k)) (length marks)
      (λ j h. rw t.next (free_set debits (at k) kind (place k) (rw (after_length debits credits reaches marks k) t.within) j))

  -- the debits of a kind that are free before line k, and the credits of that kind accepted before it, are as many as the debits free at the start
  pub balance : (k : ℕ) → count_below (length marks) (free_for debits (at k) kind) + count_below k accepted_of_kind ≡ count_below (length marks) (free_for debits marks kind)
  unfolding count_below marks_after sum_below
  balance zero = omega arith
  balance (suc k) = go (accepted k) refl (balance k)
    where
      go : (b : Bool) → accepted k ≡ b
          → count_below (length marks) (free_for debits (at k) kind) + count_below k accepted_of_kind ≡ count_below (length marks) (free_for debits marks kind)
          → count_below (length marks) (free_for debits (at (suc k)) kind) + count_below (suc k) accepted_of_kind ≡ count_below (length marks) (free_for debits marks kind)
      go false a before = rw (skipped_is debits credits reaches marks k a, count_suc accepted_of_kind k) (omega (arith, one_none accepted_of_kind k (rejected k a)))
      go true a before =
          let t = accepted_is debits credits reaches marks k a in
          omega (
            arith,
            count_suc accepted_of_kind k,
            fewer k a,
            count_except (free_for debits (at k) kind) (place k) (length marks) t.within,
            one_same accepted_of_kind k (free_for debits (at k) kind) (place k) (takes_kind k a),
          )
