-- What is known of a file of fixed-width rows once its length, or its length and its line feeds, are right. Assumes nothing.
use Rattle.std.proofs.Math.Path.{◌≡◌, refl, sym}
use Rattle.std.specs.Prelude.{Bool, ◌&&◌, List, ℕ, ◌+◌, ◌*◌, ◌≤◌, ◌<◌, length, drop, eqb, leb, Some, None}
use Rattle.std.proofs.Math.Bool.{true, false, cond}
use Rattle.std.proofs.Common.{mul-le-mul_right, add-mul, arith}
use Rattle.std.proofs.Math.ListN.{length-drop}
use Rattle.std.proofs.Math.Seq.{length-take-le}
use borrow.Author.Tests.{eqb-true, leb-true, ne_eqb, eq-eqb, lt-leb, le-leb}
use Rattle.lines.specs.Below.{all_below}
use Rattle.lines.specs.BoolLaws.{and_true, and_left, and_right, and_false_left, and_false_right}
use Rattle.lines.specs.Rows.{most_lines, line_place, file_length, header_of, line_of, footer_of, lines_for, count_fits, line_count, one_feed, line_feed_at, feeds_stand, framed_lines, Counted}
use Rattle.lines.specs.declared.rows.Layout.{Layout}

-- line k of n ends before the footer begins
pub line_ends : (l : Layout) (n k : ℕ) → k < n → line_place l k + l.line ≤ line_place l n
line_ends l n k h =
    let p : (k + 1) * l.line ≤ n * l.line = mul-le-mul_right l.line (omega arith) in
    omega (arith, p, add-mul k 1 l.line)

module _ (l : Layout) (file : List ℕ) where
  pub header_length : l.header ≤ length file → length (header_of l file) ≡ l.header
  unfolding header_of
  header_length h = length-take-le l.header file h

  pub line_length : (k : ℕ) → line_place l k + l.line ≤ length file → length (line_of l file k) ≡ l.line
  unfolding line_of
  line_length k h = length-take-le l.line (drop (line_place l k) file) (omega (arith, length-drop (line_place l k) file))

  pub footer_length : (n : ℕ) → file_length l n ≤ length file → length (footer_of l file n) ≡ l.footer
  unfolding footer_of
  footer_length n h = length-take-le l.footer (drop (line_place l n) file) (omega (arith, length-drop (line_place l n) file))

  -- a line with a line feed out of place
  pub feeds_line : (n : ℕ) → all_below n (line_feed_at l file) ≡ false → feeds_stand l file n ≡ false
  unfolding feeds_stand
  feeds_line n e = and_false_left (one_feed (header_of l file) && all_below n (line_feed_at l file)) (one_feed (footer_of l file n)) (and_false_right (one_feed (header_of l file)) (all_below n (line_feed_at l file)) e)

-- ---- the length
module _ (l : Layout) (size : ℕ) where
  pub fits_not_long : (size ≡ file_length l (lines_for l size) → ⊥) → line_count l size ≡ None
  unfolding line_count count_fits
  fits_not_long h = rw (ne_eqb size (file_length l (lines_for l size)) h)

  pub fits_not_few : most_lines < lines_for l size → line_count l size ≡ None
  unfolding line_count count_fits
  fits_not_few h = rw (and_false_right (eqb size (file_length l (lines_for l size))) (leb (lines_for l size) most_lines) (lt-leb (lines_for l size) most_lines h))

  pub fits_yes : size ≡ file_length l (lines_for l size) → lines_for l size ≤ most_lines → count_fits l size ≡ true
  unfolding count_fits
  fits_yes h k = and_true (eqb size (file_length l (lines_for l size))) (leb (lines_for l size) most_lines) (eq-eqb size (file_length l (lines_for l size)) h) (le-leb (lines_for l size) most_lines k)

  pub count_yes : count_fits l size ≡ true → line_count l size ≡ Some (lines_for l size)
  unfolding line_count
  count_yes e = rw e

  fits_is : count_fits l size ≡ true → Counted l size (lines_for l size)
  unfolding count_fits
  fits_is e =
      record {
        long = eqb-true size (file_length l (lines_for l size)) (and_left (eqb size (file_length l (lines_for l size))) (leb (lines_for l size) most_lines) e);
        few = leb-true (lines_for l size) most_lines (and_right (eqb size (file_length l (lines_for l size))) (leb (lines_for l size) most_lines) e);
      }

  -- an answer with a number says what the length is
  pub count_is : (n : ℕ) → line_count l size ≡ Some n → (count_fits l size ≡ true) × (n ≡ lines_for l size) × Counted l size n
  unfolding line_count
  count_is n e = go (count_fits l size) refl e
    where
      go : (b : Bool) → count_fits l size ≡ b → cond b (Some (lines_for l size)) None ≡ Some n → (count_fits l size ≡ true) × (n ≡ lines_for l size) × Counted l size n
      go true f p = let q : lines_for l size ≡ n = cc in (f, sym q, rw q at (fits_is f))
      go false f p = let z : ◌≡◌ {A = ℕ} 0 1 = cc in absurd (omega arith)

  pub count_not : line_count l size ≡ None → count_fits l size ≡ false
  unfolding line_count
  count_not e = go (count_fits l size) e
    where
      go : (b : Bool) → cond b (Some (lines_for l size)) None ≡ None → b ≡ false
      go true p = let z : ◌≡◌ {A = ℕ} 0 1 = cc in absurd (omega arith)
      go false p = refl

-- ---- the length and the line feeds
-- n lines, not too many, the file just as long, and line feeds where they must stand and nowhere else
pub record Framed (l : Layout) (file : List ℕ) (n : ℕ) : Type 0 where
  pub counted : Counted l (length file) n
  pub feeds : feeds_stand l file n ≡ true

module _ (l : Layout) (file : List ℕ) where
  pub framed_not_fits : count_fits l (length file) ≡ false → framed_lines l file ≡ None
  unfolding framed_lines
  framed_not_fits e = rw e

  pub framed_not_feeds : feeds_stand l file (lines_for l (length file)) ≡ false → framed_lines l file ≡ None
  unfolding framed_lines
  framed_not_feeds e = rw (and_false_right (count_fits l (length file)) (feeds_stand l file (lines_for l (length file))) e)

  pub framed_yes : count_fits l (length file) ≡ true → feeds_stand l file (lines_for l (length file)) ≡ true → framed_lines l file ≡ Some (lines_for l (length file))
  unfolding framed_lines
  framed_yes e f = rw (e, f)

  pub framed_is : (n : ℕ) → framed_lines l file ≡ Some n → Framed l file n
  unfolding framed_lines
  framed_is n e = go (count_fits l (length file)) refl (feeds_stand l file (lines_for l (length file))) refl e
    where
      go : (a : Bool) → count_fits l (length file) ≡ a → (b : Bool) → feeds_stand l file (lines_for l (length file)) ≡ b
          → cond (a && b) (Some (lines_for l (length file))) None ≡ Some n → Framed l file n
      go true f true g p =
          let q : lines_for l (length file) ≡ n = cc in
          record { counted = rw q at (fits_is l (length file) f); feeds = rw q at g }
      go true f false g p = let z : ◌≡◌ {A = ℕ} 0 1 = cc in absurd (omega arith)
      go false f b g p = let z : ◌≡◌ {A = ℕ} 0 1 = cc in absurd (omega arith)
