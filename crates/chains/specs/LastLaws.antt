-- The laws of the last number: at 0, at one more, and that a search may go from one such number to the one before. Assumes nothing.
use Rattle.std.specs.Prelude.{◌≡◌, Bool, ◌||◌, Some, None, is_some}
use Rattle.std.proofs.Math.Path.{refl, sym, ap}
use Rattle.std.proofs.Common.{◌∙◌, add-one, lt-ltb}
use Rattle.std.proofs.Math.Bool.{true, false, cond}
use Rattle.std.proofs.lemmas.Bool.{false≢true}
use Prim.Native.Nat.{ℕ, zero, suc, ◌+◌, ◌≤◌}
use native.Mathlib.Omega.{arith}
use Rattle.std.proofs.Math.Dec.{ltb}
use Rattle.lines.specs.Below.{some_below}
use Rattle.lines.specs.BelowLaws.{some_suc}
use Rattle.lines.specs.BoolLaws.{or_true_right}
use Rattle.chains.specs.Last.{last_below, place_of, last_place}

-- a place is one less than the number that names it
pub place_back : (k j : ℕ) → k ≡ j + 1 → place_of k ≡ Some j
unfolding place_of
place_back zero j e = absurd (omega arith)
place_back (suc k) j e = let s : k ≡ j = omega arith in ap (λ (i : ℕ). Some i) s

pub place_none : place_of 0 ≡ None
unfolding place_of
place_none = refl

place_there : (k : ℕ) → is_some (place_of k) ≡ ltb 0 k
unfolding place_of
place_there zero = refl
place_there (suc k) = sym (lt-ltb 0 (suc k) (omega arith))

module _ (p : ℕ → Bool) where
  pub last_zero : last_below 0 p ≡ 0
  unfolding last_below
  last_zero = refl

  pub last_hit : (k : ℕ) → p k ≡ true → last_below (k + 1) p ≡ k + 1
  unfolding last_below
  last_hit k e = rw (add-one k, e)

  pub last_miss : (k : ℕ) → p k ≡ false → last_below (k + 1) p ≡ last_below k p
  unfolding last_below
  last_miss k e = rw (add-one k, e)

  pub last_le : (k : ℕ) → last_below k p ≤ k
  unfolding last_below
  last_le zero = omega arith
  last_le (suc k) = go (last_le k) (p k)
    where
      go : last_below k p ≤ k → (b : Bool) → cond b (suc k) (last_below k p) ≤ suc k
      go h true = omega arith
      go h false = omega arith

  -- p holds of the last
  pub last_is : (k j : ℕ) → last_below k p ≡ j + 1 → p j ≡ true
  unfolding last_below
  last_is zero j e = absurd (omega arith)
  last_is (suc k) j e = go (λ f. last_is k j f) (p k) refl e
    where
      go : (last_below k p ≡ j + 1 → p j ≡ true) → (b : Bool) → p k ≡ b → cond b (suc k) (last_below k p) ≡ j + 1 → p j ≡ true
      go ih true f g = let s : j ≡ k = omega arith in ap p s ∙ f
      go ih false f g = ih g

  -- something holds below k just where there is a last
  pub last_some : (k : ℕ) → some_below k p ≡ ltb 0 (last_below k p)
  unfolding last_below some_below
  last_some zero = refl
  last_some (suc k) = go (some_below k p) (last_some k) (p k)
    where
      go : (a : Bool) → a ≡ ltb 0 (last_below k p) → (b : Bool) → (a || b) ≡ ltb 0 (cond b (suc k) (last_below k p))
      go a ih true = or_true_right a true refl ∙ sym (lt-ltb 0 (suc k) (omega arith))
      go true ih false = ih
      go false ih false = ih

  -- and just there the last has a place
  pub last_there : (k : ℕ) → is_some (last_place k p) ≡ some_below k p
  last_there k = place_there (last_below k p) ∙ sym (last_some k)

or_drop : (a b : Bool) → b ≡ false → (a || b) ≡ a
or_drop true b e = refl
or_drop false b e = e

-- ---- q holds only where p does
module _ (p q : ℕ → Bool) (only : (j : ℕ) → q j ≡ true → p j ≡ true) where
  neither : (j : ℕ) → p j ≡ false → q j ≡ false
  neither j e = go (q j) refl
    where
      go : (b : Bool) → q j ≡ b → b ≡ false
      go true f = absurd (false≢true (sym e ∙ only j f))
      go false f = refl

  -- above the last of p nothing of q is left out
  pub last_skips : (k : ℕ) → some_below (last_below k p) q ≡ some_below k q
  unfolding last_below some_below
  last_skips zero = refl
  last_skips (suc k) = go (last_skips k) (p k) refl
    where
      go : some_below (last_below k p) q ≡ some_below k q → (b : Bool) → p k ≡ b → some_below (cond b (suc k) (last_below k p)) q ≡ some_below (suc k) q
      go ih true e = refl
      go ih false e = ih ∙ sym (or_drop (some_below k q) (q k) (neither k e))

  -- where q fails at j, the last of p below j is where to go on
  pub last_steps : (j : ℕ) → q j ≡ false → some_below (last_below j p) q ≡ some_below (j + 1) q
  last_steps j e = last_skips j ∙ sym (some_suc q j ∙ or_drop (some_below j q) (q j) e)

  -- the last of q is not above the last of p
  pub last_within : (k : ℕ) → last_below (last_below k p) q ≡ last_below k q
  unfolding last_below
  last_within zero = refl
  last_within (suc k) = go (last_within k) (p k) refl
    where
      go : last_below (last_below k p) q ≡ last_below k q → (b : Bool) → p k ≡ b → last_below (cond b (suc k) (last_below k p)) q ≡ last_below (suc k) q
      go ih true e = refl
      go ih false e = rw (neither k e) ih
