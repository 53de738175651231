-- The credits of one file in file order: what each takes, and the marks after each. `credits k` is line k, counted from 0, and `reaches k` says
-- that it passes every test before L8. Assumes nothing.
use Rattle.std.specs.Prelude.{Bool, not, ◌&&◌, cond, List, ℕ, zero, suc, Option}
use Rattle.debits.specs.Taking.{place_taken, taken, took_debit, marks_then}

module _ (debits : List ℕ) (credits : ℕ → List ℕ) (reaches : ℕ → Bool) (marks : List ℕ) where
  -- the marks after k lines: a line that reaches the test takes the debit that it finds, any other line takes none
  unfoldable pub marks_after : ℕ → List ℕ
  marks_after zero = marks
  marks_after (suc k) = cond (reaches k) (marks_then (marks_after k) (taken debits (marks_after k) (credits k))) (marks_after k)

  -- what line k takes where it reaches the test
  unfoldable pub taken_at : ℕ → Option ℕ
  taken_at k = taken debits (marks_after k) (credits k)

  -- the place, counted from 0, of the debit that line k takes
  unfoldable pub place_at : ℕ → ℕ
  place_at k = place_taken debits (marks_after k) (credits k)

  -- line k reaches the test and takes a debit
  unfoldable pub credit_accepted : ℕ → Bool
  credit_accepted k = reaches k && took_debit (taken_at k)

  -- line k reaches the test and finds none: L8
  unfoldable pub credit_refused : ℕ → Bool
  credit_refused k = reaches k && not (took_debit (taken_at k))
