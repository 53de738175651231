-- Files of fixed-width rows: a header, lines of one width, a footer, each ending in a line feed. Assumes nothing.
use Rattle.std.specs.Prelude.{◌≡◌, Bool, ◌&&◌, cond, List, ℕ, ◌+◌, ◌-◌, ◌*◌, ◌/◌, ◌≤◌, ◌<◌, length, take, drop, eqb, leb, Option, Some, None}
use Rattle.lines.specs.Below.{all_below}
use Rattle.lines.specs.Class.{place_of}
use Rattle.lines.specs.declared.class.Class.TheVariants.{Only}
use Rattle.lines.specs.declared.rows.Layout.{Layout}

-- no file has more lines
abbrev pub most_lines : ℕ
most_lines = 9999

-- where line k begins, counted from 0; with k the number of lines, where the footer begins
abbrev pub line_place : Layout → ℕ → ℕ
line_place l k = l.header + k * l.line

-- how long a file of n lines is
abbrev pub file_length : Layout → ℕ → ℕ
file_length l n = line_place l n + l.footer

unfoldable pub header_of : Layout → List ℕ → List ℕ
header_of l file = take l.header file

unfoldable pub line_of : Layout → List ℕ → ℕ → List ℕ
line_of l file k = take l.line (drop (line_place l k) file)

-- the footer of a file of n lines
unfoldable pub footer_of : Layout → List ℕ → ℕ → List ℕ
footer_of l file n = take l.footer (drop (line_place l n) file)

-- how many lines a file of `size` bytes would have
abbrev pub lines_for : Layout → ℕ → ℕ
lines_for l size = (size - (l.header + l.footer)) / l.line

-- so many lines give just that length, and are not too many
unfoldable pub count_fits : Layout → ℕ → Bool
count_fits l size = eqb size (file_length l (lines_for l size)) && leb (lines_for l size) most_lines

-- the number of lines that the length gives
unfoldable pub line_count : Layout → ℕ → Option ℕ
line_count l size = cond (count_fits l size) (Some (lines_for l size)) None

-- the row's first line feed is its last byte
unfoldable pub one_feed : List ℕ → Bool
one_feed row = eqb (place_of (Only 10) row + 1) (length row)

unfoldable pub line_feed_at : Layout → List ℕ → ℕ → Bool
line_feed_at l file k = one_feed (line_of l file k)

-- a line feed at the end of each row, and none elsewhere
unfoldable pub feeds_stand : Layout → List ℕ → ℕ → Bool
feeds_stand l file n = one_feed (header_of l file) && all_below n (line_feed_at l file) && one_feed (footer_of l file n)

-- the number of lines of a file whose length and line feeds are right
unfoldable pub framed_lines : Layout → List ℕ → Option ℕ
framed_lines l file = cond (count_fits l (length file) && feeds_stand l file (lines_for l (length file))) (Some (lines_for l (length file))) None

-- a layout with lines, of widths that cannot wrap
pub record Laid (l : Layout) : Type 0 where
  pub some : 0 < l.line
  pub small : l.header + l.line + l.footer ≤ 65536

-- n lines, not too many, and the file just as long
pub record Counted (l : Layout) (size n : ℕ) : Type 0 where
  pub long : size ≡ file_length l n
  pub few : n ≤ most_lines
