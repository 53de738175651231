-- Numbers of periods: the first number that covers is the first place in book order that covers. Assumes nothing.
use Rattle.std.specs.Prelude.{◌≡◌, Bool, not, List, ℕ, ◌+◌, ◌*◌, ◌/◌, ◌%◌, ◌≤◌, ◌<◌, Option, Some, None}
use Rattle.std.proofs.Math.Path.{refl, sym, ap}
use Rattle.std.proofs.Common.{◌∙◌}
use Rattle.std.proofs.Math.Bool.{true, false, cond}
use native.Mathlib.Omega.{arith}
use borrow.Author.Tests.{ltb-true, ltb-false, lt-ltb, le-ltb}
use Rattle.std.proofs.Math.Dec.{ltb}
use Rattle.lines.specs.Below.{first_below}
use Rattle.lines.specs.BelowLaws.{some_each, first_none, first_hit, first_before, first_found}
use Rattle.lines.specs.BoolLaws.{and_left}
use Rattle.lines.specs.Class.{all_of}
use Rattle.lines.specs.declared.class.Class.TheVariants.{Only}
use Rattle.book.specs.Layout.{agreements, periods_at, body_place, width}
use Rattle.book.specs.Form.{Whole}
use Rattle.cover.specs.Cover.{Asked, asked, covers_at, covering_period, has_cover, pan_is, agreement_of, cover_in, cover_of, place_at}
use Rattle.cover.specs.FoundLaws.{cover_past}
use Rattle.cover.specs.declared.cover.Place.{Place}
use Rattle.lines.specs.Found.{found_below, found_is, found_not}
use Rattle.cover.specs.CoverLaws.{by_pan, by_plate}
use Rattle.cover.specs.Plates.{numbers_of, body_for, numbered, period_for, covers_number, place_for}
use Rattle.cover.specs.PlatesLaws.{split, numbered_is}

module _ (book : List ℕ) where
  -- ---- the first that covers
  module _ (q : Asked) (w : Whole width book) where
    abbrev wanted : ℕ → Bool
    wanted = covers_number book q

    few : (i : ℕ) → i < agreements book → periods_at book (body_place width book i) ≤ 64
    few i h = (w.bodies i h).most

    at_number : (i j : ℕ) → i < agreements book → j < periods_at book (body_place width book i) → wanted (64 * i + j) ≡ covers_at width book (body_place width book i) q j
    unfolding covers_number numbered period_for covers_at
    at_number i j h k =
        let l : j < 64 = omega (arith, few i h) in
        rw ((split i j l).0, (split i j l).1, lt-ltb i (agreements book) h, lt-ltb j (periods_at book (body_place width book i)) k)

    -- an agreement whose numbers all lie before x has no period that covers
    none_in : (i : ℕ) → i < agreements book → ((y : ℕ) → y < 64 * i + 64 → wanted y ≡ false) → has_cover width book q i ≡ false
    unfolding has_cover covering_period
    none_in i h none =
        let p = periods_at book (body_place width book i) in
        let e = first_none (covers_at width book (body_place width book i) q) p (some_each _ p (λ j k. sym (at_number i j h k) ∙ none (64 * i + j) (omega (arith, few i h)))) in
        le-ltb _ p (omega arith)

    module _ (x : ℕ) (e : x ≡ first_below (numbers_of book) wanted) where
      before_x : (y : ℕ) → y < x → wanted y ≡ false
      before_x y h = first_before wanted (numbers_of book) y (omega arith)

      plate_none : numbers_of book ≤ x → cover_in width book q (first_below (agreements book) (has_cover width book q)) ≡ None
      unfolding cover_in
      plate_none h =
          let n = agreements book in
          let f = first_none (has_cover width book q) n (some_each _ n (λ i k. none_in i k (λ y l. before_x y (omega arith)))) in
          rw (f, le-ltb n n (omega arith))

      module _ (h : x < numbers_of book) where
        holds : wanted x ≡ true
        holds = ap wanted e ∙ first_found wanted (numbers_of book) (omega arith)

        here : (x / 64 < agreements book) × (x % 64 < periods_at book (body_for book x))
        unfolding covers_number
        here = numbered_is book x (and_left (numbered book x) _ holds)

        period_x : covering_period width book (body_for book x) q ≡ x % 64
        unfolding covering_period
        period_x =
            let z : 64 * (x / 64) + x % 64 ≡ x = omega arith in
            first_hit (covers_at width book (body_for book x) q) (periods_at book (body_for book x)) (x % 64) here.1
            (some_each _ (x % 64) (λ j k. sym (at_number (x / 64) j here.0 (omega (arith, here.1))) ∙ before_x (64 * (x / 64) + j) (omega arith)))
            (sym (at_number (x / 64) (x % 64) here.0 here.1) ∙ ap wanted z ∙ holds)

        has_x : has_cover width book q (x / 64) ≡ true
        unfolding has_cover
        has_x = rw period_x (lt-ltb _ _ here.1)

        agreement_x : first_below (agreements book) (has_cover width book q) ≡ x / 64
        agreement_x =
            first_hit (has_cover width book q) (agreements book) (x / 64) here.0
            (some_each _ (x / 64) (λ i k. none_in i (omega (arith, here.0)) (λ y l. before_x y (omega arith))))
            has_x

        plate_some : cover_in width book q (first_below (agreements book) (has_cover width book q)) ≡ Some (place_at (x / 64) (x % 64))
        unfolding cover_in
        plate_some = rw (agreement_x, lt-ltb _ _ here.0, has_x, period_x)

    -- the place of the first number that covers is what covers
    plate_covers : (x : ℕ) → x ≡ first_below (numbers_of book) (covers_number book q) → place_for book x ≡ cover_in width book q (first_below (agreements book) (has_cover width book q))
    unfolding place_for
    plate_covers x e = go (ltb x (numbers_of book)) refl
      where
        go : (b : Bool) → ltb x (numbers_of book) ≡ b → cond b (Some (place_at (x / 64) (x % 64))) None ≡ cover_in width book q (first_below (agreements book) (has_cover width book q))
        go true f = sym (plate_some x e (ltb-true x (numbers_of book) f))
        go false f = sym (plate_none x e (ltb-false x (numbers_of book) f))

-- ---- by the PAN, or by the index
module _ (book pan moment plate nation : List ℕ) where
  pub cover_named : not (all_of (Only 32) pan) ≡ true → cover_in width book (asked true moment plate nation) (agreement_of book pan) ≡ cover_of width book pan moment plate nation
  unfolding cover_of
  cover_named e = rw e (ap (cover_in width book (asked true moment plate nation)) (sym (by_pan width book pan (asked true moment plate nation) refl)))

  pub cover_plate : not (all_of (Only 32) pan) ≡ false → (x : ℕ) → Whole width book
      → x ≡ first_below (numbers_of book) (covers_number book (asked false moment plate nation)) → place_for book x ≡ cover_of width book pan moment plate nation
  unfolding cover_of
  cover_plate e x w f =
      plate_covers book (asked false moment plate nation) w x f
      ∙ rw e (ap (cover_in width book (asked false moment plate nation)) (sym (by_plate width book pan (asked false moment plate nation) refl)))

-- ---- what is found says what covers
module _ (book pan moment plate nation : List ℕ) where
  -- by a PAN: the period that covers of its agreement
  pub named_some : (i : ℕ) → all_of (Only 32) pan ≡ false → Some i ≡ found_below (agreements book) (pan_is book pan) → cover_in width book (asked true moment plate nation) i ≡ cover_of width book pan moment plate nation
  unfolding agreement_of
  named_some i e f = ap (cover_in width book (asked true moment plate nation)) (found_is (agreements book) (pan_is book pan) i f).0 ∙ cover_named book pan moment plate nation (ap not e)

  pub named_none : all_of (Only 32) pan ≡ false → ◌≡◌ {A = Option ℕ} None (found_below (agreements book) (pan_is book pan)) → ◌≡◌ {A = Option Place} None (cover_of width book pan moment plate nation)
  unfolding agreement_of
  named_none e f =
      let z = found_not (agreements book) (pan_is book pan) f in
      cover_past width book (asked true moment plate nation) (agreement_of book pan) (omega arith) ∙ cover_named book pan moment plate nation (ap not e)

  -- by a blank one: the first in book order
  pub blank_first : all_of (Only 32) pan ≡ true
      → cover_in width book (asked false moment plate nation) (first_below (agreements book) (has_cover width book (asked false moment plate nation))) ≡ cover_of width book pan moment plate nation
  unfolding cover_of
  blank_first e = rw e (ap (cover_in width book (asked false moment plate nation)) (sym (by_plate width book pan (asked false moment plate nation) refl)))

  pub blank_some : (x : ℕ) → Whole width book → all_of (Only 32) pan ≡ true → Some x ≡ found_below (numbers_of book) (covers_number book (asked false moment plate nation))
      → Some (place_at (x / 64) (x % 64)) ≡ cover_of width book pan moment plate nation
  unfolding place_for
  blank_some x w e f =
      let g = found_is (numbers_of book) (covers_number book (asked false moment plate nation)) x f in
      rw (lt-ltb x (numbers_of book) g.1) at (cover_plate book pan moment plate nation (ap not e) x w g.0)

  pub blank_none : Whole width book → all_of (Only 32) pan ≡ true → ◌≡◌ {A = Option ℕ} None (found_below (numbers_of book) (covers_number book (asked false moment plate nation)))
      → ◌≡◌ {A = Option Place} None (cover_of width book pan moment plate nation)
  unfolding place_for
  blank_none w e f =
      let n = numbers_of book in
      rw (le-ltb n n (omega arith)) at (cover_plate book pan moment plate nation (ap not e) n w (found_not n (covers_number book (asked false moment plate nation)) f))
