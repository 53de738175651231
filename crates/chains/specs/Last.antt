-- The last number of which something holds, counted up as `first_below` is. Assumes nothing.
use Rattle.std.specs.Prelude.{Bool, cond, ℕ, zero, suc, Option, Some, None}

-- one more than the last number below k of which p holds, and 0 where there is none
unfoldable pub last_below : ℕ → (ℕ → Bool) → ℕ
last_below zero p = 0
last_below (suc k) p = cond (p k) (suc k) (last_below k p)

-- a number counted from 1, where 0 is none, as one counted from 0
unfoldable pub place_of : ℕ → Option ℕ
place_of zero = None
place_of (suc k) = Some k

-- the last number below k of which p holds
abbrev pub last_place : ℕ → (ℕ → Bool) → Option ℕ
last_place k p = place_of (last_below k p)
