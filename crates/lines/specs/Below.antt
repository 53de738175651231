-- Counted up: what holds of, is found in, or is made of the things numbered 0 to k - 1. Each is given at 0 and at one more.
-- Assumes nothing.
use Rattle.std.specs.Prelude.{Bool, true, false, ◌&&◌, ◌||◌, cond, List, [], ◌∷◌, ◌++◌, ℕ, zero, suc, ◌+◌}

-- p holds of each number below k
unfoldable pub all_below : ℕ → (ℕ → Bool) → Bool
all_below zero p = true
all_below (suc k) p = all_below k p && p k

-- p holds of some number below k
unfoldable pub some_below : ℕ → (ℕ → Bool) → Bool
some_below zero p = false
some_below (suc k) p = some_below k p || p k

-- the first number below k of which p holds, and k itself where there is none
unfoldable pub first_below : ℕ → (ℕ → Bool) → ℕ
first_below zero p = zero
first_below (suc k) p = cond (some_below k p) (first_below k p) (cond (p k) k (suc k))

-- f 0, f 1, up to f (k - 1)
unfoldable pub table_below : ℕ → (ℕ → ℕ) → List ℕ
table_below zero f = []
table_below (suc k) f = table_below k f ++ (f k ∷ [])

-- the texts f 0, f 1, up to f (k - 1), one behind the other
unfoldable pub join_below : ℕ → (ℕ → List ℕ) → List ℕ
join_below zero f = []
join_below (suc k) f = join_below k f ++ f k

-- f 0 + f 1 + .. + f (k - 1)
unfoldable pub sum_below : ℕ → (ℕ → ℕ) → ℕ
sum_below zero f = 0
sum_below (suc k) f = sum_below k f + f k
