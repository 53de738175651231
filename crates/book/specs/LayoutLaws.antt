-- Where the parts of a book stand, and how long they are. Assumes nothing.
use Rattle.std.specs.Prelude.{◌≡◌, List, ℕ, ◌+◌, ◌-◌, ◌≤◌, ◌<◌, length, drop}
use Rattle.std.proofs.Math.Path.{refl}
use Rattle.std.proofs.Common.{ap, add-one, arith, length-drop, length-take, length-take-le}
use Rattle.lines.specs.Columns.{cols}
use Rattle.lines.specs.Rows.{line_place}
use Rattle.lines.specs.RowsLaws.{line_ends, line_length}
use Rattle.book.specs.Layout.{width, start_part, end_part, agreements, entry_layout, entry_end, entry_of, pan_of, body_head, period_layout, period_end, period_of, body_of, body_end, body_place}

-- entry i of n ends where the bodies begin, or before
pub entry_ends : (n i : ℕ) → i < n → entry_end i ≤ line_place entry_layout n
entry_ends n i h = line_ends entry_layout n i h

-- period j of n ends where the body ends, or before
pub period_ends : (w at n j : ℕ) → j < n → period_end w at j ≤ body_of w at n
period_ends w at n j h = line_ends (period_layout w at) n j h

pub entry_length : (book : List ℕ) (i : ℕ) → entry_end i ≤ length book → length (entry_of book i) ≡ 23
entry_length book i h = line_length entry_layout book i h

pub period_length : (w : ℕ) (book : List ℕ) (at j : ℕ) → period_end w at j ≤ length book → length (period_of w book at j) ≡ w
unfolding period_of
period_length w book at j h = line_length (period_layout w at) book j h

pub head_length : (book : List ℕ) (at : ℕ) → at + 14 ≤ length book → length (body_head book at) ≡ 14
unfolding body_head
head_length book at h = length-take-le 14 (drop at book) (omega (arith, length-drop at book))

-- a number of at most four bytes is read
pub short_field : (from to : ℕ) (line s : List ℕ) → s ≡ cols from to line → to ≤ from + 3 → length s ≤ 4
short_field from to line s e h = omega (arith, ap length e, length-take (to + 1 - from) (drop (from - 1) line))

-- the length of a field that a line has
pub cols_length : (from to : ℕ) (line : List ℕ) → 1 ≤ from → to ≤ length line → length (cols from to line) ≡ to + 1 - from
cols_length from to line h k = length-take-le (to + 1 - from) (drop (from - 1) line) (omega (arith, length-drop (from - 1) line))

-- the start and the end of a period of its whole width
pub start_length : (period : List ℕ) → length period ≡ width → length (start_part period) ≡ 14
start_length period h = cols_length 13 26 period (omega arith) (omega arith)

pub end_length : (period : List ℕ) → length period ≡ width → length (end_part period) ≡ 14
end_length period h = cols_length 27 40 period (omega arith) (omega arith)

pub pan_length : (book : List ℕ) (i : ℕ) → entry_end i ≤ length book → length (pan_of book i) ≡ 19
unfolding pan_of
pan_length book i h = cols_length 1 19 (entry_of book i) (omega arith) (omega (arith, entry_length book i h))

module _ (w : ℕ) (book : List ℕ) where
  -- the next body begins where this one ends
  pub place_zero : body_place w book 0 ≡ line_place entry_layout (agreements book)
  unfolding body_place
  place_zero = refl

  pub place_suc : (i : ℕ) → body_place w book (i + 1) ≡ body_end w book (body_place w book i)
  unfolding body_place
  place_suc i = rw (add-one i)
