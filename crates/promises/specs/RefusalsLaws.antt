-- The refused lines of a file, numbered in file order: each has its number, and each number its line. Assumes nothing.
use Rattle.std.specs.Prelude.{◌≡◌, Bool, ◌||◌, cond, List, length, eqb, ltb}
use Rattle.std.proofs.Math.Path.{refl, ap, subst}
use Rattle.std.proofs.Common.{sym, ◌∙◌, add-zero, add-one, arith}
use Rattle.std.proofs.Math.Bool.{true, false}
use Prim.Native.Nat.{ℕ, zero, suc, ◌+◌, ◌-◌, ◌≤◌, ◌<◌}
use borrow.Author.Tests.{eqb-true, eq-eqb, ltb-true, ltb-false}
use Rattle.lines.specs.Below.{some_below, sum_below}
use Rattle.lines.specs.BelowLaws.{some_suc, first_is}
use Rattle.lines.specs.BoolLaws.{and_true, and_left, and_right, or_true_left, or_true_right}
use Rattle.tif.specs.Body.{amount_at}
use Rattle.judging.specs.Sums.{is_counted, one_at, amount_of, count_of, total_of}
use Rattle.answers.specs.Listing.{refused_at, refused_one, refused_before, is_refusal, refused_place}
use Rattle.answers.specs.ListingLaws.{one_yes, one_no, before_zero, before_suc, before_le, place_is}

module _ (words : List ℕ) where
  pub count_is : count_of true words ≡ refused_before words (length words)
  unfolding count_of refused_before
  count_is = refl

  -- a number below how many are refused of the first n lines is that of one of these
  some_refusal : (j n : ℕ) → j < refused_before words n → some_below n (is_refusal words j) ≡ true
  unfolding is_refusal
  some_refusal j zero h = absurd (omega (arith, h, before_zero words))
  some_refusal j (suc n) h =
      subst (λ (m : ℕ). some_below m (is_refusal words j) ≡ true) (add-one n)
      (some_suc (is_refusal words j) n ∙ go (some_refusal j n) (ltb j (refused_before words n)) refl (refused_at words n) refl)
    where
      more : refused_before words (suc n) ≡ refused_before words n + refused_one words n
      more = subst (λ (m : ℕ). refused_before words m ≡ refused_before words n + refused_one words n) (add-one n) (before_suc words n)

      go : (j < refused_before words n → some_below n (is_refusal words j) ≡ true) → (b : Bool) → ltb j (refused_before words n) ≡ b → (r : Bool) → refused_at words n ≡ r
          → (some_below n (is_refusal words j) || is_refusal words j n) ≡ true
      go ih true l r e = or_true_left (some_below n (is_refusal words j)) (is_refusal words j n) (ih (ltb-true j (refused_before words n) l))
      go ih false l true e =
          let le = ltb-false j (refused_before words n) l in
          or_true_right (some_below n (is_refusal words j)) (is_refusal words j n) (and_true (refused_at words n) (eqb (refused_before words n) j) e (eq-eqb (refused_before words n) j (omega (arith, h, more, one_yes words n e, le))))
      go ih false l false e =
          let le = ltb-false j (refused_before words n) l in
          absurd (omega (arith, h, more, one_no words n e, le))

  -- refusal number j, counted from 0: a line of the file, refused, with j refused before it
  pub record Placed (j k : ℕ) : Type 0 where
    pub within : k < length words
    pub refused : refused_at words k ≡ true
    pub before : refused_before words k ≡ j

  pub placed : (j : ℕ) → j < count_of true words → Placed j (refused_place words j)
  unfolding refused_place is_refusal
  placed j h =
      let f = first_is (is_refusal words j) (length words) (some_refusal j (length words) (omega (arith, h, count_is))) in
      let k = refused_place words j in
      record {
        within = f.0;
        refused = and_left (refused_at words k) (eqb (refused_before words k) j) f.1;
        before = eqb-true (refused_before words k) j (and_right (refused_at words k) (eqb (refused_before words k) j) f.1);
      }

  -- a refused line has a number, and that number its line
  pub numbered : (k : ℕ) → k < length words → refused_at words k ≡ true → (refused_before words k < count_of true words) × (refused_place words (refused_before words k) ≡ k)
  numbered k h e =
      let m = before_le words (k + 1) (length words - (k + 1)) in
      let f : k + 1 + (length words - (k + 1)) ≡ length words = omega arith in
      let g : refused_before words (k + 1) ≤ refused_before words (length words) = rw f at m in
      (omega (arith, before_suc words k, one_yes words k e, g, count_is), place_is words k h e)

  -- in file order
  pub in_order : (i j : ℕ) → i < j → j < count_of true words → refused_place words i < refused_place words j
  in_order i j l h = go (ltb (refused_place words i) (refused_place words j)) refl
    where
      go : (b : Bool) → ltb (refused_place words i) (refused_place words j) ≡ b → refused_place words i < refused_place words j
      go true e = ltb-true (refused_place words i) (refused_place words j) e
      go false e =
          let le = ltb-false (refused_place words i) (refused_place words j) e in
          let m = before_le words (refused_place words j) (refused_place words i - refused_place words j) in
          let f : refused_place words j + (refused_place words i - refused_place words j) ≡ refused_place words i = omega arith in
          let g : refused_before words (refused_place words j) ≤ refused_before words (refused_place words i) = rw f at m in
          absurd (omega (arith, l, g, (placed i (omega arith)).before, (placed j h).before))

  -- ---- their amounts
  -- the amounts of the refused lines, summed by their numbers
  sums_to : (tif : List ℕ) (k : ℕ) → k ≤ length words → sum_below k (amount_of true tif words) ≡ sum_below (refused_before words k) (λ j. amount_at tif (refused_place words j))
  unfolding sum_below amount_of
  sums_to tif zero h = rw (before_zero words)
  sums_to tif (suc k) h = go (sums_to tif k (omega arith)) (refused_at words k) refl
    where
      more : refused_before words (suc k) ≡ refused_before words k + refused_one words k
      more = subst (λ (m : ℕ). refused_before words m ≡ refused_before words k + refused_one words k) (add-one k) (before_suc words k)

      go : sum_below k (amount_of true tif words) ≡ sum_below (refused_before words k) (λ j. amount_at tif (refused_place words j)) → (b : Bool) → refused_at words k ≡ b → sum_below (suc k) (amount_of true tif words) ≡ sum_below (refused_before words (suc k)) (λ j. amount_at tif (refused_place words j))
      go ih true e =
          let m : refused_before words (suc k) ≡ suc (refused_before words k) = omega (arith, more, one_yes words k e) in
          rw (m, e, place_is words k (omega arith) e, ih)
      go ih false e =
          let m : refused_before words (suc k) ≡ refused_before words k = omega (arith, more, one_no words k e) in
          rw (m, e, ih) (add-zero _)

  pub refused_total : (tif : List ℕ) → total_of true tif words ≡ sum_below (count_of true words) (λ j. amount_at tif (refused_place words j))
  unfolding total_of
  refused_total tif = sums_to tif (length words) (omega arith) ∙ ap (λ (n : ℕ). sum_below n (λ j. amount_at tif (refused_place words j))) (sym count_is)

  -- where no line is accepted, nothing is
  none_to : (tif : List ℕ) (k : ℕ) → sum_below k (one_at false words) ≡ 0 → sum_below k (amount_of false tif words) ≡ 0
  unfolding sum_below one_at amount_of
  none_to tif zero z = refl
  none_to tif (suc k) z = go (none_to tif k) (is_counted false words k) refl
    where
      one : is_counted false words k ≡ true → one_at false words k ≡ 1
      one f = rw f

      go : (sum_below k (one_at false words) ≡ 0 → sum_below k (amount_of false tif words) ≡ 0) → (b : Bool) → is_counted false words k ≡ b → sum_below k (amount_of false tif words) + cond (is_counted false words k) (amount_at tif k) 0 ≡ 0
      go ih true e = absurd (omega (arith, z, one e))
      go ih false e =
          let p : sum_below k (amount_of false tif words) ≡ 0 = ih (omega (arith, z)) in
          rw (e, p)

  pub none_accepted : (tif : List ℕ) → count_of false words ≡ 0 → total_of false tif words ≡ 0
  unfolding count_of total_of
  none_accepted tif z = none_to tif (length words) z
