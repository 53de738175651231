-- Keys of a book that rise, as the PANs of its agreements and the starts of an agreement's periods do, and what halving the starts finds.
-- The width `w` of a period is a parameter. Assumes nothing.
use Rattle.std.specs.Prelude.{◌≡◌, Bool, true, false, List, ℕ, ◌+◌, ◌≤◌, ◌<◌, length}
use Rattle.lines.specs.Below.{some_below}
use Rattle.lines.specs.Same.{before}
use Rattle.book.specs.Layout.{period_end, period_of, start_part}

-- the start of period j of the body at `at`
unfoldable pub start_of : ℕ → List ℕ → ℕ → ℕ → List ℕ
start_of w book at j = start_part (period_of w book at j)

-- key i stands after the text
unfoldable pub after : (ℕ → List ℕ) → List ℕ → ℕ → Bool
after key text i = before text (key i)

-- n keys of one size, each before the next
pub record Rising (key : ℕ → List ℕ) (n size : ℕ) : Type 0 where
  pub even : (i : ℕ) → i < n → length (key i) ≡ size
  pub next : (i : ℕ) → i + 1 < n → before (key i) (key (i + 1)) ≡ true

-- n periods of the body at `at` that lie in the book, with starts that rise, and a moment
pub record Sought (w : ℕ) (book : List ℕ) (at n : ℕ) (moment : List ℕ) : Type 0 where
  pub inside : (j : ℕ) → j < n → period_end w at j ≤ length book
  pub rising : Rising (start_of w book at) n 14
  pub timed : length moment ≡ 14

-- the first number below n of which p holds is not below `low` and not above `high`
pub record FirstWithin (n : ℕ) (p : ℕ → Bool) (low high : ℕ) : Type 0 where
  pub order : low ≤ high
  pub within : high ≤ n
  pub below : some_below low p ≡ false
  pub above : high < n → p high ≡ true

-- of the numbers below n, p holds of none but perhaps of the one before k
pub record OnlyBefore (n k : ℕ) (p : ℕ → Bool) : Type 0 where
  pub within : k ≤ n
  pub others : (i : ℕ) → i < n → (i + 1 ≡ k → ⊥) → p i ≡ false
