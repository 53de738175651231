-- How many numbers below n a test holds of, and the rule that a map that gives no value twice does not lead many into few. Assumes nothing.
use Rattle.std.specs.Prelude.{◌≡◌, refl, Bool, true, false, not, ◌&&◌, cond, ℕ, zero, suc, ◌+◌, ◌≤◌, ◌<◌, eqb}
use Rattle.std.proofs.Common.{◌∙◌, not-suc-le-zero, arith, eq-eqb, ne_eqb}
use Rattle.lines.specs.Below.{sum_below}
use Rattle.lines.specs.BelowLaws.{below_suc}
use Rattle.lines.specs.BoolLaws.{and_one, and_false_right}

-- 1 for a number of which p holds
unfoldable pub one_if : (ℕ → Bool) → ℕ → ℕ
one_if p i = cond (p i) 1 0

-- how many numbers below n p holds of
unfoldable pub count_below : ℕ → (ℕ → Bool) → ℕ
count_below n p = sum_below n (one_if p)

-- p, but not of j
unfoldable pub except : (ℕ → Bool) → ℕ → ℕ → Bool
except p j i = p i && not (eqb i j)

-- ---- one number
module _ (p : ℕ → Bool) (i : ℕ) where
  pub one_some : p i ≡ true → one_if p i ≡ 1
  unfolding one_if
  one_some e = rw e

  pub one_none : p i ≡ false → one_if p i ≡ 0
  unfolding one_if
  one_none e = rw e

  pub one_same : (q : ℕ → Bool) (j : ℕ) → p i ≡ q j → one_if p i ≡ one_if q j
  unfolding one_if
  one_same q j e = rw e

module _ (p : ℕ → Bool) (j : ℕ) where
  except_at : except p j j ≡ false
  unfolding except
  except_at = and_false_right (p j) (not (eqb j j)) (rw (eq-eqb j j refl))

  except_other : (i : ℕ) → (i ≡ j → ⊥) → except p j i ≡ p i
  unfolding except
  except_other i n = rw (ne_eqb i j n) (and_one (p i))

  except_yes : (i : ℕ) → p i ≡ true → (i ≡ j → ⊥) → except p j i ≡ true
  except_yes i e n = except_other i n ∙ e

-- ---- many
pub count_suc : (p : ℕ → Bool) (k : ℕ) → count_below (suc k) p ≡ count_below k p + one_if p k
unfolding count_below sum_below
count_suc p k = refl

-- tests that agree below n count the same
pub count_same : (p q : ℕ → Bool) (n : ℕ) → ((i : ℕ) → i < n → p i ≡ q i) → count_below n p ≡ count_below n q
unfolding count_below sum_below one_if
count_same p q zero e = refl
count_same p q (suc n) e = rw (e n (omega arith), count_same p q n (λ i h. e i (omega arith)))

pub count_none : (p : ℕ → Bool) (n : ℕ) → ((i : ℕ) → i < n → p i ≡ false) → count_below n p ≡ 0
unfolding count_below sum_below one_if
count_none p zero e = refl
count_none p (suc n) e = rw (e n (omega arith), count_none p n (λ i h. e i (omega arith)))

-- leaving j out changes nothing below n where j is not below n
except_above : (p : ℕ → Bool) (j n : ℕ) → n ≤ j → count_below n (except p j) ≡ count_below n p
except_above p j n h = count_same (except p j) p n (λ i l. except_other p j i (λ e. omega arith))

-- leaving j out takes 1 away where p holds of j
pub count_except : (p : ℕ → Bool) (j n : ℕ) → j < n → count_below n (except p j) + one_if p j ≡ count_below n p
unfolding count_below sum_below
count_except p j zero h = absurd (not-suc-le-zero h)
count_except p j (suc n) h =
    below_suc j n h
    (λ e. rw e (omega (arith, except_above p n n (omega arith), one_none (except p n) n (except_at p n))))
    (λ l. omega (arith, count_except p j n l, one_same (except p j) n p n (except_other p j n (λ e. omega arith))))

-- a map f from the numbers below k of which p holds to those below n of which q holds, with no value twice: p holds of no more than q
pub pigeonhole : (p q : ℕ → Bool) (f : ℕ → ℕ) (k n : ℕ)
    → ((i : ℕ) → i < k → p i ≡ true → (f i < n) × (q (f i) ≡ true))
    → ((i j : ℕ) → i < k → j < k → p i ≡ true → p j ≡ true → f i ≡ f j → i ≡ j)
    → count_below k p ≤ count_below n q
unfolding count_below sum_below
pigeonhole p q f zero n into apart = omega arith
pigeonhole p q f (suc k) n into apart =
    go (p k) refl (λ r within. pigeonhole p r f k n within (λ i j h l. apart i j (omega arith) (omega arith)))
  where
    go : (b : Bool) → p k ≡ b
        → ((r : ℕ → Bool) → ((i : ℕ) → i < k → p i ≡ true → (f i < n) × (r (f i) ≡ true)) → count_below k p ≤ count_below n r)
        → count_below (suc k) p ≤ count_below n q
    go false e fewer = omega (arith, fewer q (λ i h. into i (omega arith)), one_none p k e)
    go true e fewer =
        let t = into k (omega arith) e in
        let less = fewer (except q (f k)) (λ i h y. ((into i (omega arith) y).0, except_yes q (f k) (f i) (into i (omega arith) y).1 (λ s. omega (arith, apart i k (omega arith) (omega arith) y e s)))) in
        omega (arith, less, count_except q (f k) n t.0, one_some q (f k) t.1, one_some p k e)
