-- Accepted and refused make up the file: the counts add to the number of lines, the sums to the sum of all amounts; and no sum wraps. Assumes nothing.
use Rattle.std.specs.Prelude.{◌≡◌, refl, Bool, not, List, ℕ, zero, suc, ◌+◌, ◌-◌, ◌*◌, ◌≤◌, ◌<◌, length}
use Rattle.std.proofs.Common.{◌∙◌}
use Rattle.std.proofs.Math.Bool.{true, false, cond}
use native.Mathlib.Omega.{arith}
use Rattle.lines.specs.Below.{sum_below}
use Rattle.lines.specs.BelowLaws.{sum_both, sum_le}
use Rattle.passage.specs.PassageLaws.{gross_small}
use Rattle.tif.specs.Body.{line_at, amount_at, body_total}
use Rattle.judging.specs.Sums.{is_accepted, is_counted, one_at, amount_of, count_of, total_of, Worded}

-- of a line that is refused or accepted just one is counted
either : (accepted : Bool) (x : ℕ) → cond accepted x 0 + cond (not accepted) x 0 ≡ x
either true x = omega arith
either false x = omega arith

one_each : (k : ℕ) → sum_below k (λ (i : ℕ). 1) ≡ k
unfolding sum_below
one_each zero = refl
one_each (suc k) = omega (arith, one_each k)

-- accepted and refused lines are all the lines
pub counts_add : (words : List ℕ) → count_of false words + count_of true words ≡ length words
unfolding count_of one_at is_counted
counts_add words =
    sum_both (one_at false words) (one_at true words) (λ (i : ℕ). 1) (length words) (λ i h. either (is_accepted words i) 1)
    ∙ one_each (length words)

-- accepted and refused amounts are all the amounts
pub amounts_add : (tif words : List ℕ) → total_of false tif words + total_of true tif words ≡ body_total tif (length words)
unfolding total_of amount_of is_counted body_total
amounts_add tif words =
    sum_both (amount_of false tif words) (amount_of true tif words) (amount_at tif) (length words) (λ i h. either (is_accepted words i) (amount_at tif i))

-- so each of them is no more
pub count_within : (refused : Bool) (words : List ℕ) → count_of refused words ≤ length words
count_within true words = omega (arith, counts_add words)
count_within false words = omega (arith, counts_add words)

-- a line is counted with its whole amount, or not at all
amount_within : (refused : Bool) (tif words : List ℕ) (k : ℕ) → amount_of refused tif words k ≤ amount_at tif k
unfolding amount_of
amount_within refused tif words k = go _ (amount_at tif k)
  where
    go : (b : Bool) (x : ℕ) → cond b x 0 ≤ x
    go true x = omega arith
    go false x = omega arith

pub total_within : (refused : Bool) (tif words : List ℕ) → total_of refused tif words ≤ body_total tif (length words)
unfolding total_of body_total
total_within refused tif words =
    let amount = amount_of refused tif words in
    omega (arith, sum_both amount (λ i. amount_at tif i - amount i) (amount_at tif) (length words) (λ i h. omega (arith, amount_within refused tif words i)))

-- ---- no sum wraps
one_small : (refused : Bool) (words : List ℕ) (i : ℕ) → one_at refused words i ≤ 1
unfolding one_at
one_small refused words i = go (is_counted refused words i)
  where
    go : (b : Bool) → cond b 1 0 ≤ 1
    go true = omega arith
    go false = omega arith

pub ones_small : (refused : Bool) (words : List ℕ) (k : ℕ) → sum_below k (one_at refused words) ≤ k
ones_small refused words k = omega (arith, sum_le (one_at refused words) 1 k (λ i h. one_small refused words i))

module _ (refused : Bool) (tif words : List ℕ) (w : Worded tif words) where
  pub amount_small : (k : ℕ) → k < length words → amount_of refused tif words k ≤ 99999999999
  unfolding amount_at
  amount_small k h = omega (arith, amount_within refused tif words k, gross_small (line_at tif k) (w.digits k h))

  pub amounts_small : (k : ℕ) → k ≤ length words → sum_below k (amount_of refused tif words) ≤ 99999999999 * k
  amounts_small k h = sum_le (amount_of refused tif words) 99999999999 k (λ i l. amount_small i (omega arith))
