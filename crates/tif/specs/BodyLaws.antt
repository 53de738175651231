-- The laws of amounts that are stated or not, and that no sum of them wraps. Assumes nothing.
use Rattle.std.specs.Prelude.{◌≡◌, refl, Bool, true, false, List, ℕ, ◌*◌, ◌≤◌, Some, None}
use Rattle.std.proofs.Common.{arith}
use Rattle.lines.specs.Below.{all_below, sum_below}
use Rattle.lines.specs.BelowLaws.{all_zero, all_more, all_at, sum_zero, sum_suc, sum_le}
use Rattle.lines.specs.RowsLaws.{line_ends, line_length}
use Rattle.passage.specs.PassageLaws.{gross_small}
use Rattle.tif.specs.Body.{gross_of, amount_if, line_sound, line_amount, line_at, line_sound_at, amount_at}
use Rattle.tif.specs.Every.{every_first, every_rest}
use Rattle.lines.specs.declared.kinds.Gross.{Gross}

-- ---- stated or not
module _ (formed : Bool) (v : ℕ) where
  pub amount_bad : formed ≡ false → amount_if formed v ≡ None
  unfolding amount_if
  amount_bad e = rw e

  pub amount_good : formed ≡ true → amount_if formed v ≡ Some (gross_of v)
  unfolding amount_if
  amount_good e = rw e

pub amount_not : (formed : Bool) (v : ℕ) → amount_if formed v ≡ None → formed ≡ false
unfolding amount_if
amount_not true v e = let z : ◌≡◌ {A = ℕ} 0 1 = cc in absurd (omega arith)
amount_not false v e = refl

pub amount_is : (formed : Bool) (v : ℕ) (g : Gross) → amount_if formed v ≡ Some g → (formed ≡ true) × (g ≡ gross_of v)
unfolding amount_if
amount_is true v g e = (refl, cc)
amount_is false v g e = let z : ◌≡◌ {A = ℕ} 0 1 = cc in absurd (omega arith)

-- ---- the sum of the first k amounts
-- eleven digits
pub amount_small : (tif : List ℕ) (k : ℕ) → line_sound_at tif k ≡ true → amount_at tif k ≤ 99999999999
unfolding line_sound_at line_sound amount_at
amount_small tif k e = gross_small (line_at tif k) (every_first _ _ (every_rest _ _ e))

pub sum_small : (tif : List ℕ) (k : ℕ) → all_below k (line_sound_at tif) ≡ true → sum_below k (amount_at tif) ≤ 99999999999 * k
sum_small tif k e = sum_le (amount_at tif) 99999999999 k (λ i h. amount_small tif i (all_at (line_sound_at tif) k e i h))

-- a line that states no amount is not sound
pub line_not : (tif : List ℕ) (k : ℕ) → line_amount (line_at tif k) ≡ None → line_sound_at tif k ≡ false
unfolding line_amount line_sound_at
line_not tif k e = amount_not _ _ e

-- one that states an amount is sound, and it is that
pub line_is : (tif : List ℕ) (k : ℕ) (g : Gross) → line_amount (line_at tif k) ≡ Some g → (line_sound_at tif k ≡ true) × (g ≡ gross_of (amount_at tif k))
unfolding line_amount line_sound_at amount_at
line_is tif k g e = amount_is _ _ g e

-- what a loop that sums the amounts rests on
pub ruleset summing = (all_zero, all_more, sum_zero, sum_suc, line_ends, line_length, line_is, amount_good, amount_small, sum_small)
