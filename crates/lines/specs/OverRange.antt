-- What `all`, `any` and `find` over the numbers 0 to n - 1 answer, where the closure computes a test. Assumes nothing.
use Rattle.std.specs.Prelude.{◌≡◌, refl, Bool, true, false, ℕ, ◌≤◌, ◌<◌, List, length, get_or, Option, Some, None, MatchOption}
use Rattle.std.proofs.Common.{sym, subst, arith}
use Rattle.std.proofs.iter.Yields.{nat_range_steps}
use Rattle.std.proofs.lemmas.Iterator.{YieldsList-from_range, cases_from_all, cases_from_any, first_from_Range}
use Rattle.std.proofs.lemmas.List.FromFn.{length-range_with_len, get_or-range_with_len}
use Rattle.std.specs.Bool.{⊤, MatchBool}
use Rattle.std.specs.Fn.{Called, CalledAt}
use Rattle.std.specs.Iterator.{YieldsThen}
use Rattle.std.specs.List.{range_with_len, FoldsTo, AllWithin, HoldsAt}
use Rattle.std.specs.declared.ops.Range.{Range}
use denote.Param.Members.{Mut}
use denote.Ref.{Bor}
use Rattle.lines.specs.Below.{all_below, some_below}
use Rattle.lines.specs.Found.{found_below, found_hit, found_none}
use Rattle.lines.specs.BelowLaws.{all_each, all_fails, some_each, some_hit}

module _ (n : ℕ) (p : ℕ → Bool) where
  is_number : (P : ℕ → Type 0) (k : ℕ) → k < n → P (get_or (range_with_len 0 n) k 0) → P k
  is_number P k h = subst P (omega (arith, get_or-range_with_len 0 n k 0 h))

  pub all_over : {F : Type 0} {g : Mut F (ℕ × Unit {0}) Bool} (u : Range ℕ) (f : F) (r : Bool)
      → (xs : List ℕ) × (o : Option ℕ) × (j : F) × YieldsThen nat_range_steps (record { start = 0; end = n }) xs o u × FoldsTo (λ p x q. Called g p (x, tt) true q) f xs j × MatchOption o (r ≡ true) (λ x. (r ≡ false) × ((h : F) × Called g j (x, tt) false h))
      → ((x : ℕ) (b : Bool) (q : F) → Called g f (x, tt) b q → (q ≡ f) × (b ≡ p x)) → r ≡ all_below n p
  all_over {F} {g} u f r ran each =
      go r (cases_from_all u f r (λ x. p x ≡ true) (λ x. p x ≡ false) ran (YieldsList-from_range 0 n n refl (omega arith))
      (λ x q k. let e = each x true q k in (e.0, sym e.1)) (λ x q k. let e = each x false q k in sym e.1))
    where
      go : (b : Bool) → MatchBool b (AllWithin (λ x. p x ≡ true) (range_with_len 0 n) 0 (length (range_with_len 0 n))) ((k : ℕ) × (k < length (range_with_len 0 n)) × HoldsAt (λ x. p x ≡ false) (range_with_len 0 n) k) → b ≡ all_below n p
      go true h = sym (all_each p n (λ i l. is_number (λ x. p x ≡ true) i l (h i 0 (omega arith) (omega (arith, length-range_with_len 0 n)))))
      go false h =
          let l : h.0 < n = omega (arith, h.1, length-range_with_len 0 n) in
          sym (all_fails p n h.0 l (is_number (λ x. p x ≡ false) h.0 l (h.2 0)))

  pub any_over : {F : Type 0} {g : Mut F (ℕ × Unit {0}) Bool} (u : Range ℕ) (f : F) (r : Bool)
      → (xs : List ℕ) × (o : Option ℕ) × (j : F) × YieldsThen nat_range_steps (record { start = 0; end = n }) xs o u × FoldsTo (λ p x q. Called g p (x, tt) false q) f xs j × MatchOption o (r ≡ false) (λ x. (r ≡ true) × ((h : F) × Called g j (x, tt) true h))
      → ((x : ℕ) (b : Bool) (q : F) → Called g f (x, tt) b q → (q ≡ f) × (b ≡ p x)) → r ≡ some_below n p
  any_over {F} {g} u f r ran each =
      go r (cases_from_any u f r (λ x. p x ≡ true) (λ x. p x ≡ false) ran (YieldsList-from_range 0 n n refl (omega arith))
      (λ x q k. let e = each x true q k in sym e.1) (λ x q k. let e = each x false q k in (e.0, sym e.1)))
    where
      go : (b : Bool) → MatchBool b ((k : ℕ) × (k < length (range_with_len 0 n)) × HoldsAt (λ x. p x ≡ true) (range_with_len 0 n) k) (AllWithin (λ x. p x ≡ false) (range_with_len 0 n) 0 (length (range_with_len 0 n))) → b ≡ some_below n p
      go true h =
          let l : h.0 < n = omega (arith, h.1, length-range_with_len 0 n) in
          sym (some_hit p n h.0 l (is_number (λ x. p x ≡ true) h.0 l (h.2 0)))
      go false h = sym (some_each p n (λ i l. is_number (λ x. p x ≡ false) i l (h i 0 (omega arith) (omega (arith, length-range_with_len 0 n)))))

  pub find_over : {F : Type 0} {g : Mut F (Bor ℕ × Unit {0}) Bool} (u : Range ℕ) (f : F) (r : Option ℕ)
      → (xs : List ℕ) × (j : F) × YieldsThen nat_range_steps (record { start = 0; end = n }) xs r u × FoldsTo (λ p x q. CalledAt g p x false q) f xs j × MatchOption r ⊤ (λ x. (h : F) × CalledAt g j x true h)
      → ((x : ℕ) (b : Bool) (q : F) → CalledAt g f x b q → (q ≡ f) × (b ≡ p x)) → r ≡ found_below n p
  find_over {F} {g} u f r ran each =
      go r (first_from_Range (record { start = 0; end = n }) u f r (λ x. p x ≡ true) (λ x. p x ≡ false) ran
      (λ x q k. let e = each x true q k in sym e.1) (λ x q k. let e = each x false q k in (e.0, sym e.1)))
    where
      go : (o : Option ℕ) → MatchOption o ((k : ℕ) → 0 ≤ k → k < n → p k ≡ false) (λ i. (0 ≤ i) × (i < n) × (p i ≡ true) × ((k : ℕ) → 0 ≤ k → k < i → p k ≡ false)) → o ≡ found_below n p
      go None h = sym (found_none n p (λ k l. h k (omega arith) l))
      go (Some i) h = sym (found_hit n p i h.1 h.2 (λ k l. h.3 k (omega arith) l))
