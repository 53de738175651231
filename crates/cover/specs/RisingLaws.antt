-- Keys that rise, the halving that finds the first of them after a text, and what holds of none but the key before it. Assumes nothing.
use Rattle.std.specs.Prelude.{◌≡◌, refl, Bool, true, false, List, ℕ, zero, suc, ◌+◌, ◌-◌, ◌≤◌, ◌<◌, length, eqb}
use Rattle.std.proofs.Math.Path.{sym}
use Rattle.std.proofs.Common.{◌∙◌, not-suc-le-zero, eq-or-lt_of_le, add-one, arith, eqb-true}
use Rattle.std.proofs.Math.Logic.{⊎_elim}
use Rattle.std.proofs.lemmas.Bool.{eqb-false}
use Rattle.lines.specs.Below.{first_below}
use Rattle.lines.specs.BelowLaws.{below_suc, some_zero, some_each, first_hit, first_none, first_found}
use Rattle.lines.specs.Same.{before}
use Rattle.book.specs.Layout.{periods_at, period_end, body_end}
use Rattle.book.specs.LayoutLaws.{period_ends}
use Rattle.book.specs.Form.{Body}
use Rattle.cover.specs.OrderLaws.{either_side, before_trans}
use Rattle.cover.specs.UntilLaws.{unless}
use Rattle.cover.specs.Rising.{after, Rising, FirstWithin, OnlyBefore}

-- ---- keys that rise
module _ (key : ℕ → List ℕ) (n size : ℕ) (r : Rising key n size) where
  -- a key is before each later one
  pub rises : (j i : ℕ) → i < j → j < n → before (key i) (key j) ≡ true
  rises zero i h k = absurd (not-suc-le-zero h)
  rises (suc j) i h k =
      let step : before (key j) (key (suc j)) ≡ true = rw (add-one j) at (r.next j (rw (add-one j) k)) in
      below_suc i j h
      (λ e. rw e step)
      (λ l. before_trans (key i) (key j) (key (suc j)) (r.even i (omega arith) ∙ sym (r.even j (omega arith))) (rises j i l (omega arith)) step)

  module _ (text : List ℕ) (e : length text ≡ size) where
    -- what is after the text stays so
    pub stays_after : (j i : ℕ) → i ≤ j → j < n → after key text i ≡ true → after key text j ≡ true
    unfolding after
    stays_after j i h k f =
        ⊎_elim
        (λ z. rw z at f)
        (λ l. before_trans text (key i) (key j) (e ∙ sym (r.even i (omega arith))) f (rises j i l k))
        (eq-or-lt_of_le h)

    -- the first that is after the text, and all from there on
    pub after_first : (i : ℕ) → first_below n (after key text) ≤ i → i < n → after key text i ≡ true
    after_first i h k = stays_after i (first_below n (after key text)) h k (first_found (after key text) n (omega arith))

-- ---- halving
module _ (n : ℕ) (p : ℕ → Bool) where
  pub search_start : FirstWithin n p 0 n
  search_start = record { order = omega arith; within = omega arith; below = some_zero p; above = λ h. absurd (omega arith) }

  pub search_low : (low high middle : ℕ) → FirstWithin n p low high → low ≤ middle → middle < high → p middle ≡ true → FirstWithin n p low middle
  search_low low high middle b l h e = record { order = l; within = omega (arith, b.within); below = b.below; above = λ k. e }

  -- where p stays true once it is, it was not true before
  pub search_high : ((j i : ℕ) → i ≤ j → j < n → p i ≡ true → p j ≡ true) → (low high middle : ℕ) → FirstWithin n p low high → low ≤ middle → middle < high → p middle ≡ false
      → FirstWithin n p (middle + 1) high
  search_high stays low high middle b l h e =
      record {
        order = omega arith;
        within = b.within;
        below = some_each p (middle + 1) (λ i k. unless (p i) (p middle) (stays middle i (omega arith) (omega (arith, b.within))) e);
        above = b.above;
      }

  pub search_end : (low high : ℕ) → FirstWithin n p low high → high ≤ low → low ≡ first_below n p
  search_end low high b h =
      let e : high ≡ low = omega (arith, b.order) in
      either_side low n
      (λ l. sym (first_hit p n low l b.below (rw e at (b.above (omega arith)))))
      (λ l.
      let f : low ≡ n = omega (arith, b.within) in
      f ∙ sym (first_none p n (rw f at b.below)))

-- ---- what holds of none but the number before k
module _ (n k : ℕ) (p : ℕ → Bool) (o : OnlyBefore n k p) where
  pub only_none : (0 < k → p (k - 1) ≡ false) → n ≡ first_below n p
  only_none e = sym (first_none p n (some_each p n (λ i h. go i h (eqb (i + 1) k) refl)))
    where
      go : (i : ℕ) → i < n → (t : Bool) → eqb (i + 1) k ≡ t → p i ≡ false
      go i h true f =
          let s = eqb-true (i + 1) k f in
          let z : k - 1 ≡ i = omega arith in
          rw z at (e (omega arith))
      go i h false f = o.others i h (eqb-false (i + 1) k f)

  pub only_one : 0 < k → p (k - 1) ≡ true → k - 1 ≡ first_below n p
  only_one h e = sym (first_hit p n (k - 1) (omega (arith, o.within)) (some_each p (k - 1) (λ i l. o.others i (omega (arith, o.within)) (λ z. omega arith))) e)

-- a period lies in the book
pub period_inside : (w : ℕ) (book : List ℕ) (at : ℕ) → Body w book at → (j : ℕ) → j < periods_at book at → period_end w at j ≤ length book
unfolding body_end
period_inside w book at b j h = omega (arith, period_ends w at (periods_at book at) j h, b.inside)
