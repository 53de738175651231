-- What is found in an agreement, and where an agreement is found, says what covers. Assumes nothing.
use Rattle.std.specs.Prelude.{◌≡◌, Bool, true, false, ◌&&◌, cond, List, ℕ, ◌+◌, ◌≤◌, ◌<◌, ltb, Option, Some, None}
use Rattle.std.proofs.Common.{refl, sym, ap, ◌∙◌, subst, arith, lt-ltb, le-ltb}
use Rattle.lines.specs.Below.{some_below, first_below}
use Rattle.lines.specs.BelowLaws.{first_hit, first_none, some_more}
use Rattle.lines.specs.BoolLaws.{and_false_right}
use Rattle.lines.specs.Found.{found_below, found_is, found_not}
use Rattle.book.specs.Layout.{agreements, periods_at, body_place}
use Rattle.cover.specs.Cover.{Asked, covers_at, covering_period, has_cover, cover_in, place_at}
use Rattle.cover.specs.declared.cover.Place.{Place}

module _ (w : ℕ) (book : List ℕ) (q : Asked) (i : ℕ) where
  -- ---- what is found in the body of agreement i
  pub cover_some : (at j : ℕ) → i < agreements book → at ≡ body_place w book i → Some j ≡ found_below (periods_at book at) (covers_at w book at q) → Some (place_at i j) ≡ cover_in w book q i
  unfolding cover_in has_cover covering_period
  cover_some at j h z e =
      let here = body_place w book i in
      let f = found_is (periods_at book here) (covers_at w book here q) j (subst (λ (a : ℕ). Some j ≡ found_below (periods_at book a) (covers_at w book a q)) z e) in
      rw (lt-ltb i (agreements book) h, lt-ltb (first_below (periods_at book here) (covers_at w book here q)) (periods_at book here) (omega arith)) (ap (λ (k : ℕ). Some (place_at i k)) f.0)

  pub cover_none : (at : ℕ) → at ≡ body_place w book i → ◌≡◌ {A = Option ℕ} None (found_below (periods_at book at) (covers_at w book at q)) → ◌≡◌ {A = Option Place} None (cover_in w book q i)
  unfolding cover_in has_cover covering_period
  cover_none at z e =
      let here = body_place w book i in
      let first = first_below (periods_at book here) (covers_at w book here q) in
      let f = found_not (periods_at book here) (covers_at w book here q) (subst (λ (a : ℕ). ◌≡◌ {A = Option ℕ} None (found_below (periods_at book a) (covers_at w book a q))) z e) in
      let no = and_false_right (ltb i (agreements book)) (ltb first (periods_at book here)) (le-ltb first (periods_at book here) (omega arith)) in
      sym (ap (λ (t : Bool). cond {A = Option Place} t (Some (place_at i first)) None) no)

  -- where there is no agreement i
  pub cover_past : agreements book ≤ i → ◌≡◌ {A = Option Place} None (cover_in w book q i)
  unfolding cover_in
  cover_past h = rw (le-ltb i (agreements book) h)

  -- ---- what covers in agreement i says whether it has a cover
  pub some_has : (place : Place) → Some place ≡ cover_in w book q i → has_cover w book q i ≡ true
  unfolding cover_in
  some_has place e = go (ltb i (agreements book)) (has_cover w book q i) e
    where
      go : (a b : Bool) → Some place ≡ cond {A = Option Place} (a && b) (Some (place_at i (covering_period w book (body_place w book i) q))) None → b ≡ true
      go true true f = refl
      go true false f = let z : ◌≡◌ {A = ℕ} 0 1 = cc in absurd (omega arith)
      go false b f = let z : ◌≡◌ {A = ℕ} 0 1 = cc in absurd (omega arith)

  pub none_has : i < agreements book → ◌≡◌ {A = Option Place} None (cover_in w book q i) → has_cover w book q i ≡ false
  unfolding cover_in
  none_has h e = go (has_cover w book q i) (rw (lt-ltb i (agreements book) h) at e)
    where
      go : (b : Bool) → ◌≡◌ {A = Option Place} None (cond {A = Option Place} b (Some (place_at i (covering_period w book (body_place w book i) q))) None) → b ≡ false
      go true f = let z : ◌≡◌ {A = ℕ} 0 1 = cc in absurd (omega arith)
      go false f = refl

-- ---- the agreements gone through in order
module _ (w : ℕ) (book : List ℕ) (q : Asked) where
  pub next_none : (i : ℕ) → some_below i (has_cover w book q) ≡ false → i < agreements book → ◌≡◌ {A = Option Place} None (cover_in w book q i) → some_below (i + 1) (has_cover w book q) ≡ false
  next_none i none h e = some_more (has_cover w book q) i none (none_has w book q i h e)

  pub next_some : (i : ℕ) (place : Place) → some_below i (has_cover w book q) ≡ false → i < agreements book → Some place ≡ cover_in w book q i
      → Some place ≡ cover_in w book q (first_below (agreements book) (has_cover w book q))
  next_some i place none h e = e ∙ ap (cover_in w book q) (sym (first_hit (has_cover w book q) (agreements book) i h none (some_has w book q i place e)))

  pub all_none : some_below (agreements book) (has_cover w book q) ≡ false → ◌≡◌ {A = Option Place} None (cover_in w book q (first_below (agreements book) (has_cover w book q)))
  all_none none =
      let z = first_none (has_cover w book q) (agreements book) none in
      cover_past w book q (first_below (agreements book) (has_cover w book q)) (omega arith)
