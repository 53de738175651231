-- In a sound book the cover of a passage is the first place in book order that covers it, and is nothing only where no place does. Assumes nothing.
use Rattle.std.specs.Prelude.{◌≡◌, Bool, not, ◌&&◌, ◌||◌, List, ℕ, ◌+◌, ◌<◌, Some, None}
use Rattle.std.proofs.Math.Path.{refl, ap}
use Rattle.std.proofs.Common.{sym, ◌∙◌, true≢false, eq-or-lt_of_le}
use Rattle.std.proofs.Math.Logic.{⊎_elim}
use Rattle.std.proofs.Math.Bool.{true, false, cond}
use native.Mathlib.Omega.{arith}
use Rattle.std.proofs.Math.Dec.{ltb}
use borrow.Author.Tests.{ltb-true, ltb-false, lt-ltb}
use Rattle.lines.specs.BelowLaws.{first_before, first_found}
use Rattle.lines.specs.BoolLaws.{and_left, and_right, and_true}
use Rattle.book.specs.Layout.{agreements, periods_at, body_place}
use Rattle.cover.specs.OrderLaws.{either_side}
use Rattle.cover.specs.Cover.{Asked, asking, covers_at, covering_period, has_cover, pan_is, agreement_of, covering_agreement, cover_in, cover_of, agreement_number, period_number, Named, place_at}
use Rattle.cover.specs.CoverLaws.{by_pan, by_plate, pan_once}
use Rattle.cover.specs.FirstCover.{place_covers, Covers, FirstCover}

-- ---- one agreement
module _ (w : ℕ) (book : List ℕ) (q : Asked) where
  -- no period before the first that covers does
  none_in : (i j : ℕ) → j < covering_period w book (body_place w book i) q → covers_at w book (body_place w book i) q j ≡ false
  unfolding covering_period
  none_in i j h = first_before (covers_at w book (body_place w book i) q) (periods_at book (body_place w book i)) j h

  no_cover : (i j : ℕ) → has_cover w book q i ≡ false → j < periods_at book (body_place w book i) → covers_at w book (body_place w book i) q j ≡ false
  unfolding has_cover
  no_cover i j e h = none_in i j (omega (arith, ltb-false (covering_period w book (body_place w book i) q) (periods_at book (body_place w book i)) e))

  some_cover : (i : ℕ) → has_cover w book q i ≡ true
      → (covering_period w book (body_place w book i) q < periods_at book (body_place w book i)) × (covers_at w book (body_place w book i) q (covering_period w book (body_place w book i) q) ≡ true)
  unfolding has_cover covering_period
  some_cover i e =
      let h = ltb-true (covering_period w book (body_place w book i) q) (periods_at book (body_place w book i)) e in
      (h, first_found (covers_at w book (body_place w book i) q) (periods_at book (body_place w book i)) h)

  -- what an answer says of the agreement that was looked in
  cover_is : (a i j : ℕ) → cover_in w book q a ≡ Some (place_at i j)
      → (a ≡ i) × (covering_period w book (body_place w book a) q ≡ j) × (a < agreements book) × (has_cover w book q a ≡ true)
  unfolding cover_in
  cover_is a i j e = go (ltb a (agreements book)) refl (has_cover w book q a) refl e
    where
      go : (s : Bool) → ltb a (agreements book) ≡ s → (t : Bool) → has_cover w book q a ≡ t
          → cond (s && t) (Some (place_at a (covering_period w book (body_place w book a) q))) None ≡ Some (place_at i j)
          → (a ≡ i) × (covering_period w book (body_place w book a) q ≡ j) × (a < agreements book) × (has_cover w book q a ≡ true)
      go true f true g p =
          let x : a + 1 ≡ i + 1 = ap agreement_number p in
          let y : covering_period w book (body_place w book a) q + 1 ≡ j + 1 = ap period_number p in
          (omega arith, omega arith, ltb-true a (agreements book) f, g)
      go true f false g p = let x : 0 ≡ i + 1 = ap agreement_number p in absurd (omega arith)
      go false f t g p = let x : 0 ≡ i + 1 = ap agreement_number p in absurd (omega arith)

  cover_not : (a : ℕ) → cover_in w book q a ≡ None → a < agreements book → has_cover w book q a ≡ false
  unfolding cover_in
  cover_not a e h = go (has_cover w book q a) refl
    where
      go : (t : Bool) → has_cover w book q a ≡ t → t ≡ false
      go true f =
          let z : cover_in w book q a ≡ Some (place_at a (covering_period w book (body_place w book a) q)) = rw (lt-ltb a (agreements book) h, f) in
          let x : a + 1 ≡ 0 = ap agreement_number (sym z ∙ e) in
          absurd (omega arith)
      go false f = refl

-- ---- the whole book
module _ (w : ℕ) (book pan : List ℕ) (n : Named w book pan) (q : Asked) where
  -- two answers of one test
  clash : {t : Bool} → t ≡ true → t ≡ false → ⊥
  clash e f = true≢false (sym e ∙ f)

  -- a place that covers covers by its period, and with a PAN its agreement has that PAN
  covers_period : (i j : ℕ) → Covers w book pan q i j → covers_at w book (body_place w book i) q j ≡ true
  unfolding place_covers
  covers_period i j v = and_right (not q.named || pan_is book pan i) (covers_at w book (body_place w book i) q j) v.covers

  covers_pan : (i j : ℕ) → q.named ≡ true → Covers w book pan q i j → pan_is book pan i ≡ true
  unfolding place_covers
  covers_pan i j e v = rw e at (and_left (not q.named || pan_is book pan i) (covers_at w book (body_place w book i) q j) v.covers)

  -- before the agreement that is looked in, no place covers
  none_earlier : (i j : ℕ) → i < covering_agreement w book pan q → Covers w book pan q i j → ⊥
  unfolding agreement_of
  none_earlier i j h v = go q.named refl
    where
      go : (t : Bool) → q.named ≡ t → ⊥
      go true e = clash (covers_pan i j e v) (first_before (pan_is book pan) (agreements book) i (rw (by_pan w book pan q e) at h))
      go false e = clash (covers_period i j v) (no_cover w book q i j (first_before (has_cover w book q) (agreements book) i (rw (by_plate w book pan q e) at h)) v.period)

  -- the agreement that is looked in, where it is one, has the PAN, or a period that covers
  looked_pan : q.named ≡ true → covering_agreement w book pan q < agreements book → pan_is book pan (covering_agreement w book pan q) ≡ true
  unfolding agreement_of
  looked_pan e h = rw (by_pan w book pan q e) (first_found (pan_is book pan) (agreements book) (rw (by_pan w book pan q e) at h))

  looked_plate : q.named ≡ false → covering_agreement w book pan q < agreements book → has_cover w book q (covering_agreement w book pan q) ≡ true
  looked_plate e h = rw (by_plate w book pan q e) (first_found (has_cover w book q) (agreements book) (rw (by_plate w book pan q e) at h))

  -- where it has no period that covers, no later agreement has one
  none_later : (i j : ℕ) → has_cover w book q (covering_agreement w book pan q) ≡ false → covering_agreement w book pan q < i → Covers w book pan q i j → ⊥
  none_later i j e h v = go q.named refl
    where
      a : ℕ
      a = covering_agreement w book pan q

      go : (t : Bool) → q.named ≡ t → ⊥
      go true f = clash (covers_pan i j f v) (pan_once w book pan n a i h v.agreement (looked_pan f (omega (arith, v.agreement))))
      go false f = clash (looked_plate f (omega (arith, v.agreement))) e

  found_is_first : (i j : ℕ) → cover_in w book q (covering_agreement w book pan q) ≡ Some (place_at i j) → FirstCover w book pan q i j
  unfolding place_covers
  found_is_first i j e =
      let a = covering_agreement w book pan q in
      let z = cover_is w book q a i j e in
      let v = some_cover w book q a z.3 in
      let r : FirstCover w book pan q a (covering_period w book (body_place w book a) q) =
      record {
        here =
            record {
              agreement = z.2;
              period = v.0;
              covers = and_true (not q.named || pan_is book pan a) (covers_at w book (body_place w book a) q (covering_period w book (body_place w book a) q)) (named a looked_pan z.2) v.1;
            };
        none = λ i' j' before u.
            ⊎_elim
            (λ l. none_earlier i' j' l u)
            (λ p. clash (covers_period i' j' u) (none_in w book q i' j' (rw p.0 p.1)))
            before;
      } in
      rw (z.1, z.0) at r
    where
      named : (a : ℕ) → (q.named ≡ true → a < agreements book → pan_is book pan a ≡ true) → a < agreements book → (not q.named || pan_is book pan a) ≡ true
      named a has h = go q.named refl
        where
          go : (t : Bool) → q.named ≡ t → (not t || pan_is book pan a) ≡ true
          go true f = has f h
          go false f = refl

  nothing_covers : cover_in w book q (covering_agreement w book pan q) ≡ None → (i j : ℕ) → Covers w book pan q i j → ⊥
  nothing_covers e i j v =
      let a = covering_agreement w book pan q in
      either_side i a
      (λ l. none_earlier i j l v)
      (λ l.
      let f = cover_not w book q a e (omega (arith, v.agreement)) in
      ⊎_elim
      (λ z. clash (covers_period i j v) (no_cover w book q i j (rw z at f) v.period))
      (λ m. none_later i j f m v)
      (eq-or-lt_of_le l))

-- the place that is answered is the first that covers, in book order
pub cover_first : (w : ℕ) (book pan moment plate nation : List ℕ) → Named w book pan → (i j : ℕ)
    → cover_of w book pan moment plate nation ≡ Some (place_at i j) → FirstCover w book pan (asking pan moment plate nation) i j
unfolding cover_of
cover_first w book pan moment plate nation n i j e = found_is_first w book pan n (asking pan moment plate nation) i j e

-- and where nothing is answered, no place covers
pub cover_nothing : (w : ℕ) (book pan moment plate nation : List ℕ) → Named w book pan
    → cover_of w book pan moment plate nation ≡ None → (i j : ℕ) → Covers w book pan (asking pan moment plate nation) i j → ⊥
unfolding cover_of
cover_nothing w book pan moment plate nation n e i j v = nothing_covers w book pan n (asking pan moment plate nation) e i j v
