-- Columns of a line, counted from 1 as the papers count them, first and last included. Assumes nothing.
use Rattle.std.specs.Prelude.{List, ℕ, ◌+◌, ◌-◌, ◌≤◌, get_or, take, drop}
use Rattle.lines.specs.declared.columns.Columns.{Columns}

-- columns `from` to `to`
abbrev pub cols : ℕ → ℕ → List ℕ → List ℕ
cols from to line = take (to + 1 - from) (drop (from - 1) line)

-- column n by itself
abbrev pub col : ℕ → List ℕ → ℕ
col n line = get_or line (n - 1) 0

-- the columns that a named field names
abbrev pub field_of : Columns → List ℕ → List ℕ
field_of c line = cols c.from c.to line

-- the columns from one to another, as a name
abbrev pub columns : ℕ → ℕ → Columns
columns from to = record { from = from; to = to }

-- a field that a line of `width` bytes has
pub record Inside (c : Columns) (width : ℕ) : Type 0 where
  pub first : 1 ≤ c.from
  pub order : c.from ≤ c.to
  pub last : c.to ≤ width
