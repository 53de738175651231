-- The laws of the next free number with a hash: where it is, and what lies before it. Assumes nothing.
use Rattle.std.specs.Prelude.{◌≡◌, refl, Bool, true, false, ℕ, ◌+◌, ◌≤◌, ◌<◌, leb}
use Rattle.std.proofs.Math.Path.{sym}
use Rattle.std.proofs.Common.{ap, ◌∙◌, arith, leb-true, leb-false, le-leb}
use Rattle.std.proofs.lemmas.Bool.{lt-leb}
use Rattle.lines.specs.Below.{first_below}
use Rattle.lines.specs.BelowLaws.{below_suc, some_each, first_none, first_le, first_hit, first_before, first_found}
use Rattle.lines.specs.BelowSame.{first_same}
use Rattle.lines.specs.BoolLaws.{and_left, and_right, and_false_left, and_false_right}
use Rattle.chains.specs.Ahead.{has, ahead, next}

module _ (n : ℕ) (hash : ℕ → ℕ) (free : ℕ → Bool) where
  pub ahead_low : (from h j : ℕ) → j < from → ahead hash free from h j ≡ false
  unfolding ahead
  ahead_low from h j l = and_false_left (leb from j) (has hash free h j) (lt-leb from j l)

  pub ahead_none : (from h j : ℕ) → has hash free h j ≡ false → ahead hash free from h j ≡ false
  unfolding ahead
  ahead_none from h j e = and_false_right (leb from j) (has hash free h j) e

  pub ahead_at : (from h j : ℕ) → from ≤ j → ahead hash free from h j ≡ has hash free h j
  unfolding ahead
  ahead_at from h j l = rw (le-leb from j l)

  pub next_end : (h : ℕ) → next n hash free n h ≡ n
  unfolding next
  next_end h = first_none (ahead hash free n h) n (some_each (ahead hash free n h) n (λ i l. ahead_low n h i l))

  pub next_here : (k h : ℕ) → k < n → has hash free h k ≡ true → next n hash free k h ≡ k
  unfolding next
  next_here k h l e =
      first_hit (ahead hash free k h) n k l (some_each (ahead hash free k h) k (λ i m. ahead_low k h i m)) (ahead_at k h k (omega arith) ∙ e)

  ahead_past : (k h i : ℕ) → has hash free h k ≡ false → ahead hash free k h i ≡ ahead hash free (k + 1) h i
  ahead_past k h i e = go (leb (k + 1) i) refl
    where
      go : (b : Bool) → leb (k + 1) i ≡ b → ahead hash free k h i ≡ ahead hash free (k + 1) h i
      go true f = let l = leb-true (k + 1) i f in ahead_at k h i (omega arith) ∙ sym (ahead_at (k + 1) h i l)
      go false f =
          let l = leb-false (k + 1) i f in
          below_suc i k (omega arith)
          (λ s. ahead_none k h i (ap (has hash free h) s ∙ e) ∙ sym (ahead_low (k + 1) h i l))
          (λ m. ahead_low k h i m ∙ sym (ahead_low (k + 1) h i l))

  pub next_past : (k h : ℕ) → has hash free h k ≡ false → next n hash free k h ≡ next n hash free (k + 1) h
  unfolding next
  next_past k h e = first_same (ahead hash free k h) (ahead hash free (k + 1) h) n (λ i l. ahead_past k h i e)

  pub next_le : (from h : ℕ) → next n hash free from h ≤ n
  unfolding next
  next_le from h = first_le (ahead hash free from h) n

  pub next_is : (from h : ℕ) → next n hash free from h < n → (from ≤ next n hash free from h) × (has hash free h (next n hash free from h) ≡ true)
  unfolding next ahead
  next_is from h l =
      let j = first_below n (ahead hash free from h) in
      let e = first_found (ahead hash free from h) n l in
      (leb-true from j (and_left (leb from j) (has hash free h j) e), and_right (leb from j) (has hash free h j) e)

  pub next_before : (from h i : ℕ) → from ≤ i → i < next n hash free from h → has hash free h i ≡ false
  unfolding next
  next_before from h i l m = sym (ahead_at from h i l) ∙ first_before (ahead hash free from h) n i m
