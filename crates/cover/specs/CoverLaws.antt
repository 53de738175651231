-- What is known of the agreement of a PAN in a sound book, and of the halving that finds it. Assumes nothing.
use Rattle.std.specs.Prelude.{◌≡◌, refl, Bool, false, List, ℕ, zero, suc, ◌+◌, ◌≤◌, ◌<◌, length}
use Rattle.std.proofs.Math.Path.{sym, ap}
use Rattle.std.proofs.Common.{◌∙◌, subst, not-suc-le-zero, eq-or-lt_of_le, add-one, arith}
use Rattle.std.proofs.Math.Logic.{⊎_elim}
use Rattle.std.proofs.lemmas.Bool.{false≢true}
use Rattle.std.proofs.Math.Bool.{true, not, cond}
use borrow.Author.Tests.{not-true, not-false}
use Rattle.lines.specs.Below.{first_below}
use Rattle.lines.specs.BelowLaws.{below_suc, some_each, first_before, first_hit, first_none, first_found}
use Rattle.lines.specs.Same.{same, before}
use Rattle.lines.specs.SameLaws.{same_is}
use Rattle.book.specs.Layout.{agreements, entry_end, pan_of, body_place}
use Rattle.book.specs.LayoutLaws.{entry_ends, pan_length}
use Rattle.book.specs.Form.{book_sound, Body, Whole}
use Rattle.book.specs.FormLaws.{whole_is}
use Rattle.cover.specs.OrderLaws.{either_side, before_trans, before_total, same_not_before, after_not_same}
use Rattle.cover.specs.RisingLaws.{search_start, search_low, search_high, search_end}
use Rattle.cover.specs.Cover.{Asked, has_cover, pan_is, agreement_of, covering_agreement, reached_at, Named, Between}

module _ (w : ℕ) (book : List ℕ) (s : Whole w book) where
  -- every entry lies in the book, and every PAN has its nineteen bytes
  pub entry_inside : (i : ℕ) → i < agreements book → entry_end i ≤ length book
  entry_inside i h = omega (arith, entry_ends (agreements book) i h, s.headed.entries)

  pub pan_full : (i : ℕ) → i < agreements book → length (pan_of book i) ≡ 19
  pan_full i h = pan_length book i (entry_inside i h)

  -- a PAN is before each later one
  pub pans_rise : (j i : ℕ) → i < j → j < agreements book → before (pan_of book i) (pan_of book j) ≡ true
  pans_rise zero i h k = absurd (not-suc-le-zero h)
  pans_rise (suc j) i h k =
      let step : before (pan_of book j) (pan_of book (suc j)) ≡ true = rw (add-one j) at (s.rising j (rw (add-one j) k)) in
      below_suc i j h
      (λ e. rw e step)
      (λ l. before_trans (pan_of book i) (pan_of book j) (pan_of book (suc j)) (pan_full i (omega arith) ∙ sym (pan_full j (omega arith))) (pans_rise j i l (omega arith)) step)

-- where the period is looked for, by whether a PAN names the agreement
module _ (w : ℕ) (book pan : List ℕ) (q : Asked) where
  pub by_pan : q.named ≡ true → covering_agreement w book pan q ≡ agreement_of book pan
  unfolding covering_agreement
  by_pan e = ap (λ (t : Bool). cond t (agreement_of book pan) (first_below (agreements book) (has_cover w book q))) e

  pub by_plate : q.named ≡ false → covering_agreement w book pan q ≡ first_below (agreements book) (has_cover w book q)
  unfolding covering_agreement
  by_plate e = ap (λ (t : Bool). cond t (agreement_of book pan) (first_below (agreements book) (has_cover w book q))) e

-- the body that the entry names is a sound one
pub body_at : (w : ℕ) (book : List ℕ) (i at : ℕ) → book_sound w book ≡ true → i < agreements book → at ≡ body_place w book i → Body w book at
body_at w book i at e h z = subst (Body w book) (sym z) ((whole_is w book e).bodies i h)

module _ (w : ℕ) (book pan : List ℕ) (n : Named w book pan) where
  whole : Whole w book
  whole = whole_is w book n.sound

  even : (i : ℕ) → i < agreements book → length (pan_of book i) ≡ length pan
  even i h = pan_full w book whole i h ∙ sym n.full

  -- what is not reached at j is not reached before it
  pub not_reached : (j i : ℕ) → i ≤ j → j < agreements book → reached_at book pan j ≡ false → reached_at book pan i ≡ false
  unfolding reached_at
  not_reached j i h k e =
      ⊎_elim
      (λ z. rw z e)
      (λ l.
      let f : before (pan_of book j) pan ≡ true = not-false (before (pan_of book j) pan) e in
      ap not (before_trans (pan_of book i) (pan_of book j) pan (pan_full w book whole i (omega arith) ∙ sym (pan_full w book whole j k)) (pans_rise w book whole j i l k) f))
      (eq-or-lt_of_le h)

  -- and what is reached at i is reached from there on
  pub stays_reached : (j i : ℕ) → i ≤ j → j < agreements book → reached_at book pan i ≡ true → reached_at book pan j ≡ true
  stays_reached j i h k e = go (reached_at book pan j) refl
    where
      go : (t : Bool) → reached_at book pan j ≡ t → t ≡ true
      go true f = refl
      go false f = absurd (false≢true (sym (not_reached j i h k f) ∙ e))

  -- two agreements do not share a PAN
  pub pan_once : (i j : ℕ) → i < j → j < agreements book → pan_is book pan i ≡ true → pan_is book pan j ≡ false
  unfolding pan_is
  pan_once i j h k e = after_not_same (pan_of book j) pan (rw (same_is (pan_of book i) pan e) at (pans_rise w book whole j i h k))

  -- before the first PAN reached none is the PAN
  passed_over : (i : ℕ) → i < first_below (agreements book) (reached_at book pan) → pan_is book pan i ≡ false
  unfolding reached_at pan_is
  passed_over i h = same_not_before (pan_of book i) pan (not-false (before (pan_of book i) pan) (first_before (reached_at book pan) (agreements book) i h))

  -- the first PAN reached, if it is the PAN
  pub found_there : (i : ℕ) → i ≡ first_below (agreements book) (reached_at book pan) → i < agreements book → pan_is book pan i ≡ true → i ≡ agreement_of book pan
  unfolding agreement_of
  found_there i e h f = sym (first_hit (pan_is book pan) (agreements book) i h (some_each (pan_is book pan) i (λ j l. passed_over j (rw (sym e) l))) f)

  -- where none is reached there is no such PAN
  pub found_nowhere : (i : ℕ) → i ≡ first_below (agreements book) (reached_at book pan) → agreements book ≤ i → agreements book ≡ agreement_of book pan
  unfolding agreement_of
  found_nowhere i e h = sym (first_none (pan_is book pan) (agreements book) (some_each (pan_is book pan) (agreements book) (λ j l. passed_over j (omega arith))))

  -- the first PAN reached is greater, and so are those after it
  pub found_other : (i : ℕ) → i ≡ first_below (agreements book) (reached_at book pan) → i < agreements book → pan_is book pan i ≡ false → agreements book ≡ agreement_of book pan
  unfolding agreement_of pan_is reached_at
  found_other i e h f = sym (first_none (pan_is book pan) (agreements book) (some_each (pan_is book pan) (agreements book) each))
    where
      greater : before pan (pan_of book i) ≡ true
      greater =
          let r = first_found (reached_at book pan) (agreements book) (rw e at h) in
          before_total (pan_of book i) pan (even i h) f (not-true (before (pan_of book i) pan) (rw (sym e) at r))

      later : (j : ℕ) → j < agreements book → i ≤ j → same (pan_of book j) pan ≡ false
      later j k l =
          ⊎_elim
          (λ z. rw z at f)
          (λ m. after_not_same (pan_of book j) pan (before_trans pan (pan_of book i) (pan_of book j) (sym (even i h)) greater (pans_rise w book whole j i m k)))
          (eq-or-lt_of_le l)

      each : (j : ℕ) → j < agreements book → pan_is book pan j ≡ false
      each j k = either_side j i (λ l. passed_over j (rw e at l)) (λ l. later j k l)

  -- ---- halving, as of any test that stays true once it is
  pub halve_start : Between book pan 0 (agreements book)
  halve_start = search_start (agreements book) (reached_at book pan)

  pub halve_low : (low high middle : ℕ) → Between book pan low high → low ≤ middle → middle < high → reached_at book pan middle ≡ true → Between book pan low middle
  halve_low = search_low (agreements book) (reached_at book pan)

  pub halve_high : (low high middle : ℕ) → Between book pan low high → low ≤ middle → middle < high → reached_at book pan middle ≡ false → Between book pan (middle + 1) high
  halve_high = search_high (agreements book) (reached_at book pan) stays_reached

  pub halve_end : (low high : ℕ) → Between book pan low high → high ≤ low → low ≡ first_below (agreements book) (reached_at book pan)
  halve_end = search_end (agreements book) (reached_at book pan)
