-- The first of the numbers 0 to n - 1 of which a test holds, as an Option. Assumes nothing.
use Rattle.std.specs.Prelude.{◌≡◌, refl, Bool, true, false, cond, ℕ, ◌<◌, Option, Some, None, eqb, is_none}
use Rattle.std.proofs.Common.{sym, ap, arith, eq-eqb, ne_eqb}
use Rattle.lines.specs.Below.{some_below, first_below}
use Rattle.lines.specs.BelowLaws.{some_each, some_hit, first_hit, first_none, first_is, first_found, first_before}

-- the first number below n of which p holds, if there is one
unfoldable pub found_below : ℕ → (ℕ → Bool) → Option ℕ
found_below n p = cond (some_below n p) (Some (first_below n p)) None

module _ (n : ℕ) (p : ℕ → Bool) where
  -- where p holds of i and of none before
  pub found_hit : (i : ℕ) → i < n → p i ≡ true → ((k : ℕ) → k < i → p k ≡ false) → found_below n p ≡ Some i
  unfolding found_below
  found_hit i l h before = rw (some_hit p n i l h) (ap Some (first_hit p n i l (some_each p i before) h))

  pub found_none : ((k : ℕ) → k < n → p k ≡ false) → found_below n p ≡ None
  unfolding found_below
  found_none each = rw (some_each p n each)

  -- ---- what is found is the first
  pub found_first : (i : ℕ) → i < n → i ≡ first_below n p → Some i ≡ found_below n p
  unfolding found_below
  found_first i l e =
      let h : p (first_below n p) ≡ true = first_found p n (omega arith) in
      rw (some_hit p n (first_below n p) (omega arith) h) (ap Some e)

  pub found_past : n ≡ first_below n p → ◌≡◌ {A = Option ℕ} None (found_below n p)
  unfolding found_below
  found_past e = rw (some_each p n (λ i h. first_before p n i (omega arith)))

  pub found_is : (i : ℕ) → Some i ≡ found_below n p → (i ≡ first_below n p) × (i < n)
  unfolding found_below
  found_is i e = go (some_below n p) refl e
    where
      go : (t : Bool) → some_below n p ≡ t → Some i ≡ cond t (Some (first_below n p)) None → (i ≡ first_below n p) × (i < n)
      go true s f =
          let z : i ≡ first_below n p = cc in
          (z, omega (arith, (first_is p n s).0))
      go false s f = let z : ◌≡◌ {A = ℕ} 0 1 = cc in absurd (omega arith)

  pub found_not : ◌≡◌ {A = Option ℕ} None (found_below n p) → n ≡ first_below n p
  unfolding found_below
  found_not e = go (some_below n p) refl e
    where
      go : (t : Bool) → some_below n p ≡ t → ◌≡◌ {A = Option ℕ} None (cond t (Some (first_below n p)) None) → n ≡ first_below n p
      go true s f = let z : ◌≡◌ {A = ℕ} 0 1 = cc in absurd (omega arith)
      go false s f = sym (first_none p n s)

  -- nothing is found where the first place is past the last
  pub found_nothing : is_none (found_below n p) ≡ eqb (first_below n p) n
  unfolding found_below
  found_nothing = go (some_below n p) refl
    where
      go : (t : Bool) → some_below n p ≡ t → is_none (cond t (Some (first_below n p)) None) ≡ eqb (first_below n p) n
      go true s = sym (ne_eqb _ _ (λ e. omega (arith, (first_is p n s).0, e)))
      go false s = sym (eq-eqb _ _ (first_none p n s))
