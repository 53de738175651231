-- What is known of books, heads and bodies of the right form. Assumes nothing.
use Rattle.std.specs.Prelude.{◌≡◌, true, ◌&&◌, ◌||◌, List, ℕ, ◌+◌, ◌-◌, ◌<◌, length}
use Rattle.std.proofs.Math.Bool.{false}
use native.Mathlib.Omega.{arith}
use Rattle.std.proofs.Math.Dec.{eqb, leb}
use borrow.Author.Tests.{eqb-true, leb-true, ne_eqb}
use Rattle.lines.specs.Below.{all_below}
use Rattle.lines.specs.BelowLaws.{all_at}
use Rattle.lines.specs.BoolLaws.{and_left, and_right}
use Rattle.lines.specs.Class.{filled_with}
use Rattle.lines.specs.Rows.{line_place}
use Rattle.lines.specs.Same.{before}
use Rattle.lines.specs.declared.class.Class.TheVariants.{Digit}
use Rattle.book.specs.Layout.{agreements, entry_layout, pan_of, offset_of, periods_at, body_end, body_place}
use Rattle.book.specs.Form.{most_bytes, most_agreements, most_periods, periods_sound, body_sound, rises_at, entry_sound_at, entries_sound, agreement_sound, agreement_sound_at, bodies_sound, head_sound, book_sound, book_form, Headed, Body, Whole}

-- ---- a sound head
module _ (book : List ℕ) where
  pub head_is : head_sound book ≡ true → Headed book
  unfolding head_sound
  head_is e =
      let a = leb 2 (length book) in
      let b = leb (length book) most_bytes in
      let d = leb (agreements book) most_agreements in
      let f = leb (line_place entry_layout (agreements book)) (length book) in
      let e2 = and_right a (b && (d && f)) e in
      let e3 = and_right b (d && f) e2 in
      record {
        enough = leb-true 2 (length book) (and_left a (b && (d && f)) e);
        short = leb-true (length book) most_bytes (and_left b (d && f) e2);
        few = leb-true (agreements book) most_agreements (and_left d f e3);
        entries = leb-true (line_place entry_layout (agreements book)) (length book) (and_right d f e3);
      }

-- ---- a sound body
module _ (w : ℕ) (book : List ℕ) (at : ℕ) where
  pub body_is : body_sound w book at ≡ true → Body w book at
  unfolding body_sound
  body_is e =
      let a = leb (at + 14) (length book) in
      let b = leb 1 (periods_at book at) in
      let d = leb (periods_at book at) most_periods in
      let f = leb (body_end w book at) (length book) in
      let g = periods_sound w book at (periods_at book at) in
      let e2 = and_right a (b && (d && (f && g))) e in
      let e3 = and_right b (d && (f && g)) e2 in
      let e4 = and_right d (f && g) e3 in
      record {
        head = leb-true (at + 14) (length book) (and_left a (b && (d && (f && g))) e);
        some = leb-true 1 (periods_at book at) (and_left b (d && (f && g)) e2);
        most = leb-true (periods_at book at) most_periods (and_left d (f && g) e3);
        inside = leb-true (body_end w book at) (length book) (and_left f g e4);
        periods = and_right f g e4;
      }

  pub agreement_is : (i : ℕ) → agreement_sound w book i at ≡ true → (offset_of book i ≡ at) × Body w book at
  unfolding agreement_sound
  agreement_is i e =
      let a = eqb (offset_of book i) at in
      let b = body_sound w book at in
      (eqb-true (offset_of book i) at (and_left a b e), body_is (and_right a b e))

-- ---- a sound book
module _ (w : ℕ) (book : List ℕ) (e : book_sound w book ≡ true) where
  after_head : (entries_sound book && bodies_sound w book) ≡ true
  unfolding book_sound
  after_head = and_right (head_sound book) (entries_sound book && bodies_sound w book) e

  entry : (i : ℕ) → i < agreements book → entry_sound_at book i ≡ true
  unfolding entries_sound
  entry i h = all_at (entry_sound_at book) (agreements book) (and_left (entries_sound book) (bodies_sound w book) after_head) i h

  bodies_and_end : (all_below (agreements book) (agreement_sound_at w book) && eqb (body_place w book (agreements book)) (length book)) ≡ true
  unfolding bodies_sound
  bodies_and_end = and_right (entries_sound book) (bodies_sound w book) after_head

  agreement : (i : ℕ) → i < agreements book → (offset_of book i ≡ body_place w book i) × Body w book (body_place w book i)
  unfolding agreement_sound_at
  agreement i h =
      agreement_is w book (body_place w book i) i
      (all_at (agreement_sound_at w book) (agreements book)
      (and_left (all_below (agreements book) (agreement_sound_at w book)) (eqb (body_place w book (agreements book)) (length book)) bodies_and_end) i h)

  -- the PAN after this one is greater
  next_rises : (i : ℕ) → i + 1 < agreements book → before (pan_of book i) (pan_of book (i + 1)) ≡ true
  unfolding entry_sound_at rises_at
  next_rises i h =
      let t = and_right (filled_with Digit (pan_of book (i + 1))) (eqb (i + 1) 0 || before (pan_of book (i + 1 - 1)) (pan_of book (i + 1))) (entry (i + 1) h) in
      let k : i + 1 - 1 ≡ i = omega arith in
      let z : eqb (i + 1) 0 ≡ false = ne_eqb (i + 1) 0 (omega arith) in
      rw k at (rw z at t)

  pub whole_is : Whole w book
  unfolding book_sound entry_sound_at bodies_sound
  whole_is =
      record {
        headed = head_is book (and_left (head_sound book) (entries_sound book && bodies_sound w book) e);
        digits = λ i h. and_left (filled_with Digit (pan_of book i)) (rises_at book i) (entry i h);
        rising = next_rises;
        offsets = λ i h. (agreement i h).0;
        bodies = λ i h. (agreement i h).1;
        ends = eqb-true (body_place w book (agreements book)) (length book) (and_right (all_below (agreements book) (agreement_sound_at w book)) (eqb (body_place w book (agreements book)) (length book)) bodies_and_end);
      }

-- a book that the check passes is sound
pub form_sound : (w : ℕ) (book : List ℕ) → book_form w book ≡ true → book_sound w book ≡ true
form_sound w book e = e
