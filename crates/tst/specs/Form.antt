-- The form of a toll station table (E8). Assumes nothing.
use Rattle.std.specs.Prelude.{◌≡◌, Bool, true, false, not, ◌&&◌, ◌||◌, List, ℕ, ◌<◌, length, eqb, Option, Some, None}
use Rattle.lines.specs.Below.{all_below}
use Rattle.lines.specs.Class.{all_of}
use Rattle.lines.specs.Columns.{col}
use Rattle.lines.specs.Number.{all_digits, number_of}
use Rattle.lines.specs.Rows.{header_of, line_of, footer_of, lines_for, framed_lines}
use Rattle.lines.specs.RowsLaws.{Framed}
use Rattle.lines.specs.Same.{same}
use Rattle.lines.specs.declared.class.Class.TheVariants.{DigitOrCapital}
use Rattle.chains.specs.Index.{all_different}
use Rattle.tst.specs.Columns.{tst_layout, record_count, version, version_text, actor, station, lane, station_spans}

-- an empty table means that none is lent
unfoldable pub is_lent : List ℕ → Bool
is_lent tst = not (eqb (length tst) 0)

-- how many lines a table has, where they are whole
abbrev pub stations_of : List ℕ → ℕ
stations_of tst = lines_for tst_layout (length tst)

-- line k of a table, counted from 0
abbrev pub row_of : List ℕ → ℕ → List ℕ
row_of tst k = line_of tst_layout tst k

-- column 1 is "0"; version 500001; a record count of digits that by value is the number of lines
unfoldable pub header_formed : List ℕ → ℕ → Bool
header_formed header lines =
    eqb (col 1 header) 48 && (same (version header) version_text && (all_digits (record_count header) && eqb (number_of (record_count header)) lines))

-- column 1 is "1"; an actor of digits or capitals; a station and a lane of digits
unfoldable pub station_formed : List ℕ → Bool
station_formed row = eqb (col 1 row) 49 && (all_of DigitOrCapital (actor row) && (all_digits (station row) && all_digits (lane row)))

unfoldable pub station_formed_at : List ℕ → ℕ → Bool
station_formed_at tst k = station_formed (row_of tst k)

-- each of the first m lines is so
unfoldable pub stations_formed : List ℕ → ℕ → Bool
stations_formed tst m = all_below m (station_formed_at tst)

-- column 1 is "2"
unfoldable pub footer_formed : List ℕ → Bool
footer_formed footer = eqb (col 1 footer) 50

-- header, lines and footer of a table of m lines are so, and no triple of actor, station and lane stands in two of its lines
unfoldable pub rows_formed : List ℕ → ℕ → Bool
rows_formed tst m =
    header_formed (header_of tst_layout tst) m
    && (stations_formed tst m && (footer_formed (footer_of tst_layout tst m) && all_different tst_layout tst station_spans m))

-- all of this for the number of lines that a table was found to have
unfoldable pub formed_with : List ℕ → Option ℕ → Bool
formed_with tst (Some m) = rows_formed tst m
formed_with tst None = false

-- a lent table is of the right form: its length and line feeds are right for m lines, from 0 to 9,999, and its rows for that m
unfoldable pub table_formed : List ℕ → Bool
table_formed tst = formed_with tst (framed_lines tst_layout tst)

-- no table is lent, or one of the right form
unfoldable pub table_sound : List ℕ → Bool
table_sound tst = not (is_lent tst) || table_formed tst

-- what it shows that a lent table is of the right form
pub record Tabled (tst : List ℕ) : Type 0 where
  pub framed : Framed tst_layout tst (stations_of tst)
  pub each : (k : ℕ) → k < stations_of tst → station_formed (row_of tst k) ≡ true
  pub different : all_different tst_layout tst station_spans (stations_of tst) ≡ true
