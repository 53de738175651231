-- The form of open debits and their marks (E6). Assumes nothing.
use Rattle.std.specs.Prelude.{◌≡◌, Bool, true, ◌&&◌, ◌||◌, List, ℕ, ◌*◌, ◌≤◌, ◌<◌, length, get_or, eqb, leb}
use Rattle.lines.specs.Below.{all_below}
use Rattle.lines.specs.Columns.{col}
use Rattle.lines.specs.Number.{all_digits}
use Rattle.lines.specs.Rows.{line_of, lines_for, count_fits, most_lines}
use Rattle.lines.specs.declared.rows.Layout.{Layout}
use Rattle.passage.specs.Passage.{line_width, gross_amount}

-- open debits are lines of a TIF body one behind the other, with no header and no footer
abbrev pub debit_layout : Layout
debit_layout = record { header = 0; line = line_width; footer = 0 }

-- the debit at place j, counted from 0
abbrev pub debit_line : List ℕ → ℕ → List ℕ
debit_line debits j = line_of debit_layout debits j

-- how many debits there are, where they are whole lines
abbrev pub debit_count : List ℕ → ℕ
debit_count debits = lines_for debit_layout (length debits)

-- C or D
unfoldable pub is_debit_type : ℕ → Bool
is_debit_type b = eqb b 67 || eqb b 68

-- a line begins "1", ends in line feed, has C or D first in its type and digits in its amount with VAT
unfoldable pub debit_sound : List ℕ → Bool
debit_sound line = eqb (col 1 line) 49 && (eqb (col line_width line) 10 && (is_debit_type (col 2 line) && all_digits (gross_amount line)))

unfoldable pub debit_sound_at : List ℕ → ℕ → Bool
debit_sound_at debits j = debit_sound (debit_line debits j)

-- each of the first n lines is so
unfoldable pub lines_sound : List ℕ → ℕ → Bool
lines_sound debits n = all_below n (debit_sound_at debits)

-- the mark at j is 0 or 1
unfoldable pub mark_sound_at : List ℕ → ℕ → Bool
mark_sound_at marks j = leb (get_or marks j 0) 1

unfoldable pub marks_sound : List ℕ → Bool
marks_sound marks = all_below (length marks) (mark_sound_at marks)

-- whole lines and not too many, each sound, as many marks as lines, each mark 0 or 1
unfoldable pub debits_sound : List ℕ → List ℕ → Bool
debits_sound debits marks =
    count_fits debit_layout (length debits) && (lines_sound debits (debit_count debits) && (eqb (debit_count debits) (length marks) && marks_sound marks))

-- what it shows that they are of the right form
pub record Sound (debits marks : List ℕ) : Type 0 where
  pub long : length debits ≡ length marks * line_width
  pub few : length marks ≤ most_lines
  pub each : (j : ℕ) → j < length marks → debit_sound (debit_line debits j) ≡ true
  pub binary : (j : ℕ) → j < length marks → get_or marks j 0 ≤ 1
