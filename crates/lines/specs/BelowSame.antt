-- Two functions that agree on each number below k: what is counted up of the one is what is counted up of the other. Assumes nothing.
use Rattle.std.specs.Prelude.{◌≡◌, Bool, List}
use Rattle.std.proofs.Math.Path.{refl}
use Prim.Native.Nat.{ℕ, zero, suc, ◌<◌}
use Rattle.std.proofs.Common.{arith}
use Rattle.lines.specs.Below.{all_below, some_below, first_below, table_below, join_below, sum_below}

module _ (p q : ℕ → Bool) where
  pub all_same : (k : ℕ) → ((i : ℕ) → i < k → p i ≡ q i) → all_below k p ≡ all_below k q
  unfolding all_below
  all_same zero each = refl
  all_same (suc k) each = rw (all_same k (λ i h. each i (omega arith)), each k (omega arith))

  pub some_same : (k : ℕ) → ((i : ℕ) → i < k → p i ≡ q i) → some_below k p ≡ some_below k q
  unfolding some_below
  some_same zero each = refl
  some_same (suc k) each = rw (some_same k (λ i h. each i (omega arith)), each k (omega arith))

  pub first_same : (k : ℕ) → ((i : ℕ) → i < k → p i ≡ q i) → first_below k p ≡ first_below k q
  unfolding first_below
  first_same zero each = refl
  first_same (suc k) each =
      rw (some_same k (λ i h. each i (omega arith)), first_same k (λ i h. each i (omega arith)), each k (omega arith))

pub table_same : (f g : ℕ → ℕ) (k : ℕ) → ((i : ℕ) → i < k → f i ≡ g i) → table_below k f ≡ table_below k g
unfolding table_below
table_same f g zero each = refl
table_same f g (suc k) each = rw (table_same f g k (λ i h. each i (omega arith)), each k (omega arith))

pub join_same : (f g : ℕ → List ℕ) (k : ℕ) → ((i : ℕ) → i < k → f i ≡ g i) → join_below k f ≡ join_below k g
unfolding join_below
join_same f g zero each = refl
join_same f g (suc k) each = rw (join_same f g k (λ i h. each i (omega arith)), each k (omega arith))

pub sum_same : (f g : ℕ → ℕ) (k : ℕ) → ((i : ℕ) → i < k → f i ≡ g i) → sum_below k f ≡ sum_below k g
unfolding sum_below
sum_same f g zero each = refl
sum_same f g (suc k) each = rw (sum_same f g k (λ i h. each i (omega arith)), each k (omega arith))
