-- The columns of a toll station table, counted from 1 as AP-3.4 (2.1 to 2.3) counts them. Assumes nothing.
use Rattle.std.specs.Prelude.{List, [], ◌∷◌, ℕ}
use Rattle.lines.specs.Columns.{cols, columns}
use Rattle.lines.specs.declared.rows.Layout.{Layout}
use Rattle.lines.specs.declared.columns.Columns.{Columns}

abbrev pub header_width : ℕ
header_width = 128

abbrev pub row_width : ℕ
row_width = 233

abbrev pub footer_width : ℕ
footer_width = 64

-- header, lines and footer, line feeds included
abbrev pub tst_layout : Layout
tst_layout = record { header = header_width; line = row_width; footer = footer_width }

-- ---- the header
-- the number of lines
abbrev pub record_count : List ℕ → List ℕ
record_count header = cols 66 80 header

abbrev pub version : List ℕ → List ℕ
version header = cols 95 100 header

-- `500001`
abbrev pub version_text : List ℕ
version_text = 53 ∷ 48 ∷ 48 ∷ 48 ∷ 48 ∷ 49 ∷ []

-- ---- a line
abbrev pub actor : List ℕ → List ℕ
actor row = cols 4 9 row

abbrev pub station : List ℕ → List ℕ
station row = cols 61 64 row

abbrev pub lane : List ℕ → List ℕ
lane row = cols 117 120 row

-- ---- the triple
-- actor, station and lane of a table's line
abbrev pub station_spans : List Columns
station_spans = columns 4 9 ∷ columns 61 64 ∷ columns 117 120 ∷ []

-- exit actor, station and lane of a TIF's line
abbrev pub exit_spans : List Columns
exit_spans = columns 77 82 ∷ columns 84 87 ∷ columns 88 91 ∷ []
