-- The laws of what is counted up: at 0, at one more (the code's `i + 1`), and what a search or a test that stops early shows.
-- Assumes nothing.
use Rattle.std.specs.Prelude.{◌≡◌, Bool, ◌&&◌, ◌||◌, length, set, drop}
use Rattle.std.proofs.Math.Path.{refl, ap, subst}
use Rattle.std.proofs.Common.{sym, ◌∙◌, ⊎_elim, not-suc-le-zero, le_of_suc-le-suc, eq-or-lt_of_le, mul-suc, add-one, drop-cons}
use Rattle.std.proofs.Math.Bool.{true, false, cond}
use Rattle.std.proofs.lemmas.Bool.{false≢true}
use mathlib.Core.List.{List, [], ◌∷◌, ◌++◌}
use Prim.Native.Nat.{ℕ, zero, suc, ◌+◌, ◌*◌, ◌≤◌, ◌<◌}
use native.Mathlib.Omega.{arith}
use Rattle.std.proofs.Math.ListN.{get_or, length-append, get_or-append}
use Rattle.std.proofs.lemmas.List.{set_at}
use Rattle.std.proofs.Math.Seq.{append_snoc, get_or_at}
use Rattle.lines.specs.Below.{all_below, some_below, first_below, table_below, join_below, sum_below}
use Rattle.lines.specs.BoolLaws.{and_true, and_left, and_right, and_false_left, and_false_right, or_false, or_true_left, or_true_right, or_none_left, or_none_right}

-- below suc k: at k, or below k
pub below_suc : {C : Type 0} (i k : ℕ) → i < suc k → (i ≡ k → C) → (i < k → C) → C
below_suc i k h here before = ⊎_elim here before (eq-or-lt_of_le (le_of_suc-le-suc h))

module _ (p : ℕ → Bool) where
  -- ---- all
  pub all_zero : all_below 0 p ≡ true
  unfolding all_below
  all_zero = refl

  pub all_suc : (i : ℕ) → all_below (i + 1) p ≡ (all_below i p && p i)
  unfolding all_below
  all_suc i = rw (add-one i)

  pub all_more : (i : ℕ) → all_below i p ≡ true → p i ≡ true → all_below (i + 1) p ≡ true
  all_more i a h = all_suc i ∙ and_true (all_below i p) (p i) a h

  pub all_at : (k : ℕ) → all_below k p ≡ true → (i : ℕ) → i < k → p i ≡ true
  unfolding all_below
  all_at zero a i h = absurd (not-suc-le-zero h)
  all_at (suc k) a i h =
      below_suc i k h
      (λ e. ap p e ∙ and_right (all_below k p) (p k) a)
      (λ l. all_at k (and_left (all_below k p) (p k) a) i l)

  -- what holds of each holds of all
  pub all_each : (k : ℕ) → ((i : ℕ) → i < k → p i ≡ true) → all_below k p ≡ true
  unfolding all_below
  all_each zero each = refl
  all_each (suc k) each = and_true (all_below k p) (p k) (all_each k (λ i h. each i (omega arith))) (each k (omega arith))

  pub all_fails : (k i : ℕ) → i < k → p i ≡ false → all_below k p ≡ false
  unfolding all_below
  all_fails zero i h f = absurd (not-suc-le-zero h)
  all_fails (suc k) i h f =
      below_suc i k h
      (λ e. and_false_right (all_below k p) (p k) (ap p (sym e) ∙ f))
      (λ l. and_false_left (all_below k p) (p k) (all_fails k i l f))

  -- ---- some
  pub some_zero : some_below 0 p ≡ false
  unfolding some_below
  some_zero = refl

  pub some_suc : (i : ℕ) → some_below (i + 1) p ≡ (some_below i p || p i)
  unfolding some_below
  some_suc i = rw (add-one i)

  pub some_more : (i : ℕ) → some_below i p ≡ false → p i ≡ false → some_below (i + 1) p ≡ false
  some_more i a h = some_suc i ∙ or_false (some_below i p) (p i) a h

  pub some_hit : (k i : ℕ) → i < k → p i ≡ true → some_below k p ≡ true
  unfolding some_below
  some_hit zero i h f = absurd (not-suc-le-zero h)
  some_hit (suc k) i h f =
      below_suc i k h
      (λ e. or_true_right (some_below k p) (p k) (ap p (sym e) ∙ f))
      (λ l. or_true_left (some_below k p) (p k) (some_hit k i l f))

  -- what holds of none below k is not found
  pub some_each : (k : ℕ) → ((i : ℕ) → i < k → p i ≡ false) → some_below k p ≡ false
  unfolding some_below
  some_each zero each = refl
  some_each (suc k) each = or_false (some_below k p) (p k) (some_each k (λ i h. each i (omega arith))) (each k (omega arith))

  pub some_none : (k : ℕ) → some_below k p ≡ false → (i : ℕ) → i < k → p i ≡ false
  unfolding some_below
  some_none zero a i h = absurd (not-suc-le-zero h)
  some_none (suc k) a i h =
      below_suc i k h
      (λ e. ap p e ∙ or_none_right (some_below k p) (p k) a)
      (λ l. some_none k (or_none_left (some_below k p) (p k) a) i l)

  -- ---- first
  pub first_none : (k : ℕ) → some_below k p ≡ false → first_below k p ≡ k
  unfolding first_below some_below
  first_none zero a = refl
  first_none (suc k) a = rw (or_none_left (some_below k p) (p k) a, or_none_right (some_below k p) (p k) a)

  pub first_le : (k : ℕ) → first_below k p ≤ k
  unfolding first_below
  first_le zero = omega arith
  first_le (suc k) = go (first_le k) (some_below k p) (p k)
    where
      go : first_below k p ≤ k → (a b : Bool) → cond a (first_below k p) (cond b k (suc k)) ≤ suc k
      go h true b = omega arith
      go h false true = omega arith
      go h false false = omega arith

  first_at : (i : ℕ) → some_below i p ≡ false → p i ≡ true → first_below (suc i) p ≡ i
  unfolding first_below
  first_at i a h = rw (a, h)

  pub first_hit : (k i : ℕ) → i < k → some_below i p ≡ false → p i ≡ true → first_below k p ≡ i
  unfolding first_below
  first_hit zero i h a f = absurd (not-suc-le-zero h)
  first_hit (suc k) i h a f =
      below_suc i k h
      (λ e. subst (λ (n : ℕ). first_below (suc n) p ≡ i) e (first_at i a f))
      (λ l. rw (some_hit k i l f) (first_hit k i l a f))

  -- where some is, the first is below k, and p holds of it
  pub first_is : (k : ℕ) → some_below k p ≡ true → (first_below k p < k) × (p (first_below k p) ≡ true)
  unfolding first_below some_below
  first_is zero a = absurd (false≢true a)
  first_is (suc k) a = go (λ e. first_is k e) (some_below k p) refl (p k) refl
    where
      go : (some_below k p ≡ true → (first_below k p < k) × (p (first_below k p) ≡ true)) → (b : Bool) → some_below k p ≡ b → (d : Bool) → p k ≡ d → (first_below (suc k) p < suc k) × (p (first_below (suc k) p) ≡ true)
      go ih true e d f = let r = ih e in rw e (omega arith, r.1)
      go ih false e true f = rw (e, f) (omega arith, f)
      go ih false e false f = absurd (false≢true (sym (or_false (some_below k p) (p k) e f) ∙ a))

  -- before the first there is none
  pub first_before : (k i : ℕ) → i < first_below k p → p i ≡ false
  unfolding first_below
  first_before zero i h = absurd (not-suc-le-zero h)
  first_before (suc k) i h = go (λ l. first_before k i l) (some_below k p) refl (p k) refl h
    where
      go : (i < first_below k p → p i ≡ false) → (a : Bool) → some_below k p ≡ a → (b : Bool) → p k ≡ b
          → i < cond a (first_below k p) (cond b k (suc k)) → p i ≡ false
      go ih true e b f l = ih l
      go ih false e true f l = some_none k e i l
      go ih false e false f l = below_suc i k l (λ z. ap p z ∙ f) (λ m. some_none k e i m)

  -- a first that is below k is one of which p holds
  pub first_found : (k : ℕ) → first_below k p < k → p (first_below k p) ≡ true
  first_found k h = go (some_below k p) refl
    where
      go : (b : Bool) → some_below k p ≡ b → p (first_below k p) ≡ true
      go true e = (first_is k e).1
      go false e = absurd (omega (arith, first_none k e))

-- ---- a table
module _ (f : ℕ → ℕ) where
  pub table_zero : table_below 0 f ≡ []
  unfolding table_below
  table_zero = refl

  pub table_suc : (i : ℕ) → table_below (i + 1) f ≡ table_below i f ++ (f i ∷ [])
  unfolding table_below
  table_suc i = rw (add-one i)

  pub table_length : (k : ℕ) → length (table_below k f) ≡ k
  unfolding table_below
  table_length zero = refl
  table_length (suc k) = length-append (table_below k f) (f k ∷ []) ∙ rw (table_length k) (add-one k)

  pub table_at : (k i d : ℕ) → i < k → get_or (table_below k f) i d ≡ f i
  unfolding table_below
  table_at zero i d h = absurd (not-suc-le-zero h)
  table_at (suc k) i d h =
      below_suc i k h
      (λ e. ap (λ (n : ℕ). get_or (table_below k f ++ (f k ∷ [])) n d) e ∙ get_or_at (table_below k f) (f k) [] d k (table_length k) ∙ ap f (sym e))
      (λ l. get_or-append (table_below k f) (f k ∷ []) d i (rw (table_length k) l) ∙ table_at k i d l)

  -- a store of f i at i takes a list whose first i are the table to one whose first i + 1 are
  pub table_fill : (i : ℕ) (d : List ℕ) → i < length d → set (table_below i f ++ drop i d) i (f i) ≡ table_below (i + 1) f ++ drop (i + 1) d
  table_fill i d h =
      ap (λ (r : List ℕ). set (table_below i f ++ r) i (f i)) (drop-cons d i 0 h)
      ∙ set_at (table_below i f) (get_or d i 0) (drop (suc i) d) (f i) i (table_length i)
      ∙ sym (append_snoc (table_below i f) (f i) (drop (suc i) d))
      ∙ rw (table_suc i, add-one i)

-- ---- lists joined
module _ (f : ℕ → List ℕ) where
  pub join_zero : join_below 0 f ≡ []
  unfolding join_below
  join_zero = refl

  pub join_suc : (i : ℕ) → join_below (i + 1) f ≡ join_below i f ++ f i
  unfolding join_below
  join_suc i = rw (add-one i)

-- what is joined before k, and at k, is within what is joined before n
pub join_within : (f : ℕ → List ℕ) (n k : ℕ) → k < n → length (join_below k f) + length (f k) ≤ length (join_below n f)
unfolding join_below
join_within f zero k h = absurd (not-suc-le-zero h)
join_within f (suc n) k h =
    below_suc k n h
    (λ e. rw e (omega (arith, length-append (join_below n f) (f n))))
    (λ l. omega (arith, join_within f n k l, length-append (join_below n f) (f n)))

pub join_length : (f : ℕ → List ℕ) (g : ℕ → ℕ) (n : ℕ) → ((i : ℕ) → i < n → length (f i) ≡ g i) → length (join_below n f) ≡ sum_below n g
unfolding join_below sum_below
join_length f g zero e = refl
join_length f g (suc n) e =
    let here : length (f n) ≡ g n = e n (omega arith) in
    let before = join_length f g n (λ i l. e i (omega arith)) in
    omega (arith, length-append (join_below n f) (f n))

-- ---- a sum
module _ (f : ℕ → ℕ) where
  pub sum_zero : sum_below 0 f ≡ 0
  unfolding sum_below
  sum_zero = refl

  pub sum_suc : (i : ℕ) → sum_below (i + 1) f ≡ sum_below i f + f i
  unfolding sum_below
  sum_suc i = rw (add-one i)

-- what is summed before k, and at k, is within what is summed before n
pub sum_within : (f : ℕ → ℕ) (n k : ℕ) → k < n → sum_below k f + f k ≤ sum_below n f
unfolding sum_below
sum_within f zero k h = absurd (not-suc-le-zero h)
sum_within f (suc n) k h = below_suc k n h (λ e. rw e (omega arith)) (λ l. omega (arith, sum_within f n k l))

-- two sums side by side
pub sum_both : (f g h : ℕ → ℕ) (k : ℕ) → ((i : ℕ) → i < k → f i + g i ≡ h i) → sum_below k f + sum_below k g ≡ sum_below k h
unfolding sum_below
sum_both f g h zero e = refl
sum_both f g h (suc k) e =
    let here : f k + g k ≡ h k = e k (omega arith) in
    let before = sum_both f g h k (λ i l. e i (omega arith)) in
    omega arith

-- a bound on each is a bound on the sum
pub sum_le : (f : ℕ → ℕ) (m k : ℕ) → ((i : ℕ) → i < k → f i ≤ m) → sum_below k f ≤ m * k
unfolding sum_below
sum_le f m zero e = omega arith
sum_le f m (suc k) e =
    let here : f k ≤ m = e k (omega arith) in
    let before = sum_le f m k (λ i l. e i (omega arith)) in
    rw (mul-suc m k) (omega arith)
