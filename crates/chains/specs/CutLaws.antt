-- What is left of rising chains when a number is taken out: the link that led to it leads on to what follows it. Assumes nothing.
use Rattle.std.specs.Prelude.{◌≡◌, Bool, ◌&&◌, ℕ, ◌+◌, ◌-◌, ◌≤◌, ◌<◌, leb, ltb}
use Rattle.std.proofs.Math.Path.{refl}
use Rattle.std.proofs.Common.{sym, ap, ◌∙◌, arith, eqb-true, ltb-true, ltb-false}
use Rattle.std.proofs.Math.Bool.{true, false}
use Rattle.std.proofs.lemmas.Bool.{false≢true, eqb-false}
use Rattle.std.proofs.Math.Dec.{eqb}
use Rattle.lines.specs.Below.{first_below}
use Rattle.lines.specs.BelowLaws.{some_each, first_none, first_le, first_hit, first_before, first_found}
use Rattle.lines.specs.BelowSame.{first_same}
use Rattle.lines.specs.BoolLaws.{and_false_right}
use Rattle.chains.specs.Hash.{hashes}
use Rattle.chains.specs.Ahead.{has, ahead, next, Chained, Passing, Stands, up_to, Without}
use Rattle.chains.specs.NextLaws.{ahead_low, ahead_none, ahead_at, next_is, next_before}
use Rattle.chains.specs.AheadLaws.{has_free, has_hash, has_both, has_taken, stands_head, stands_link, leads}

module _ (n : ℕ) (hash : ℕ → ℕ) (free free' : ℕ → Bool) (j : ℕ) (w : Without j free free') where
  same_has : (h i : ℕ) → (i ≡ j → ⊥) → has hash free' h i ≡ has hash free h i
  unfolding has
  same_has h i ne = rw (w.same i ne)

  gone_has : (h : ℕ) → has hash free' h j ≡ false
  gone_has h = has_taken n hash free' h j w.gone

  -- what was not there is not there
  fewer : (from h i : ℕ) → ahead hash free from h i ≡ false → ahead hash free' from h i ≡ false
  unfolding ahead
  fewer from h i e = go (eqb i j) refl
    where
      go : (b : Bool) → eqb i j ≡ b → (leb from i && has hash free' h i) ≡ false
      go true f = and_false_right (leb from i) (has hash free' h i) (ap (has hash free' h) (eqb-true i j f) ∙ gone_has h)
      go false f = rw (same_has h i (eqb-false i j f)) e

  -- the next was j: now it is what follows j
  next_jumps : (from h : ℕ) → next n hash free from h ≡ j → j < n → next n hash free' from h ≡ next n hash free (j + 1) h
  unfolding next
  next_jumps from h e l = first_same (ahead hash free' from h) (ahead hash free (j + 1) h) n (λ i m. go i (ltb i j) refl (eqb i j) refl)
    where
      low : from ≤ j
      low = rw e at (next_is n hash free from h (omega arith)).0

      go : (i : ℕ) → (a : Bool) → ltb i j ≡ a → (b : Bool) → eqb i j ≡ b → ahead hash free' from h i ≡ ahead hash free (j + 1) h i
      go i true f b g =
          let m = ltb-true i j f in
          fewer from h i (first_before (ahead hash free from h) n i (omega arith)) ∙ sym (ahead_low n hash free (j + 1) h i (omega arith))
      go i false f true g =
          let s = eqb-true i j g in
          ahead_none n hash free' from h i (ap (has hash free' h) s ∙ gone_has h) ∙ sym (ahead_low n hash free (j + 1) h i (omega arith))
      go i false f false g =
          let ne = eqb-false i j g in
          let m = ltb-false i j f in
          ahead_at n hash free' from h i (omega (arith, low)) ∙ same_has h i ne ∙ sym (ahead_at n hash free (j + 1) h i (omega arith))

  -- what was there and is not j is still there
  kept : (from h i : ℕ) → (i ≡ j → ⊥) → ahead hash free from h i ≡ true → ahead hash free' from h i ≡ true
  unfolding ahead
  kept from h i ne e = rw (same_has h i ne) e

  -- the next was another: it stays
  next_stays : (from h : ℕ) → (next n hash free from h ≡ j → ⊥) → next n hash free' from h ≡ next n hash free from h
  unfolding next
  next_stays from h ne = go (first_below n (ahead hash free from h)) refl (ltb (first_below n (ahead hash free from h)) n) refl
    where
      none : (i : ℕ) → i < first_below n (ahead hash free from h) → ahead hash free' from h i ≡ false
      none i l = fewer from h i (first_before (ahead hash free from h) n i l)

      go : (m : ℕ) → first_below n (ahead hash free from h) ≡ m → (b : Bool) → ltb m n ≡ b → first_below n (ahead hash free' from h) ≡ first_below n (ahead hash free from h)
      go m f true e =
          let l = ltb-true m n e in
          let i : first_below n (ahead hash free from h) < n = omega arith in
          first_hit (ahead hash free' from h) n (first_below n (ahead hash free from h)) i (some_each (ahead hash free' from h) (first_below n (ahead hash free from h)) none)
          (kept from h (first_below n (ahead hash free from h)) ne (first_found (ahead hash free from h) n i))
      go m f false e =
          let l = ltb-false m n e in
          let z : n ≡ first_below n (ahead hash free from h) = omega (arith, first_le (ahead hash free from h) n) in
          first_none (ahead hash free' from h) n (some_each (ahead hash free' from h) n (λ i k. none i (omega arith))) ∙ z

  module _ (l : j < n) where
    next_hash : (from h : ℕ) → next n hash free from h ≡ j → hash j ≡ h
    next_hash from h e = has_hash n hash free h j (rw e at (next_is n hash free from h (omega arith)).1)

    -- two links of one chain do not lead to the same number
    apart : (h q q' : ℕ) → Stands n hash free h q → Stands n hash free h q' → next n hash free (up_to q) h ≡ j → next n hash free (up_to q') h ≡ j → q < q' → ⊥
    apart h q q' s s' e e' m = go (ltb q' hashes) refl
      where
        go : (b : Bool) → ltb q' hashes ≡ b → ⊥
        go true f =
            let k = ltb-true q' hashes f in
            omega (arith, s.head (omega arith), s'.head k)
        go false f =
            let k = ltb-false q' hashes f in
            let low = (next_is n hash free (up_to q') h (omega arith)).0 in
            false≢true (sym (next_before n hash free (up_to q) h (q' - hashes) (omega arith) (omega arith)) ∙ s'.link k)

    one_link : (h h' q q' : ℕ) → Stands n hash free h q → Stands n hash free h' q' → next n hash free (up_to q) h ≡ j → next n hash free (up_to q') h' ≡ j → (q' ≡ q → ⊥) → ⊥
    one_link h h' q q' s s' e e' ne = go (rw same at s') (rw same at e') (ltb q q') refl
      where
        same : h' ≡ h
        same = sym (next_hash (up_to q') h' e') ∙ next_hash (up_to q) h e

        go : Stands n hash free h q' → next n hash free (up_to q') h ≡ j → (b : Bool) → ltb q q' ≡ b → ⊥
        go t f true m = apart h q q' s t e f (ltb-true q q' m)
        go t f false m = let k = ltb-false q q' m in apart h q' q t s f e (omega arith)

    module _ (link link' : ℕ → ℕ) (h q : ℕ) (x : Chained n hash free 0 link) (s : Stands n hash free h q) (e : j ≡ link q) (c : Passing q j link link') where
      at_q : next n hash free (up_to q) h ≡ j
      at_q = sym (leads n hash free link x h q s) ∙ sym e

      was : free j ≡ true
      was = has_free n hash free h j (rw at_q at (next_is n hash free (up_to q) h (omega (arith, at_q))).1)

      cut_at : (h' q' : ℕ) → Stands n hash free h' q' → (b : Bool) → eqb q' q ≡ b → link' q' ≡ next n hash free' (up_to q') h'
      cut_at h' q' t true f =
          let z = eqb-true q' q f in
          let y : next n hash free (up_to q') h' ≡ j = sym (leads n hash free link x h' q' t) ∙ ap link z ∙ sym e in
          ap link' z
          ∙ c.past
          ∙ x.nexts j (omega arith) l was
          ∙ ap (λ (g : ℕ). next n hash free (j + 1) g) (next_hash (up_to q') h' y)
          ∙ sym (next_jumps (up_to q') h' y l)
      cut_at h' q' t false f =
          let ne = eqb-false q' q f in
          c.others q' ne ∙ leads n hash free link x h' q' t ∙ sym (next_stays (up_to q') h' (λ y. one_link h h' q q' s t at_q y ne))

      still : (i : ℕ) → free' i ≡ true → free i ≡ true
      still i t = go (eqb i j) refl
        where
          go : (b : Bool) → eqb i j ≡ b → free i ≡ true
          go true f = absurd (false≢true (sym w.gone ∙ ap free' (sym (eqb-true i j f)) ∙ t))
          go false f = sym (w.same i (eqb-false i j f)) ∙ t

      pub chained_cut : Chained n hash free' 0 link'
      chained_cut = record {
        heads = (λ a m. let z : up_to a ≡ 0 = omega arith in rw z at (cut_at a a (stands_head n hash free a m) (eqb a q) refl));
        nexts = (λ i b m t. let z : up_to (hashes + i) ≡ i + 1 = omega arith in rw z at (cut_at (hash i) (hashes + i) (stands_link n hash free (hash i) i m (has_both n hash free (hash i) i (still i t) refl)) (eqb (hashes + i) q) refl));
      }
