-- The columns of a TIF's header and footer, counted from 1. Those of a line are in the crate `passage`. Assumes nothing.
use Rattle.std.specs.Prelude.{List, ℕ}
use Rattle.lines.specs.Columns.{cols}
use Rattle.lines.specs.declared.rows.Layout.{Layout}
use Rattle.passage.specs.Passage.{line_width}

abbrev pub header_width : ℕ
header_width = 162

abbrev pub footer_width : ℕ
footer_width = 107

-- header, lines and footer, line feeds included
abbrev pub tif_layout : Layout
tif_layout = record { header = header_width; line = line_width; footer = footer_width }

-- ---- the header
abbrev pub header_sender : List ℕ → List ℕ
header_sender header = cols 2 7 header

abbrev pub header_receiver : List ℕ → List ℕ
header_receiver header = cols 8 13 header

-- the file sequence: 21 columns, though 1.3.2 gives it 28 characters
abbrev pub header_sequence : List ℕ → List ℕ
header_sequence header = cols 14 34 header

abbrev pub header_currency : List ℕ → List ℕ
header_currency header = cols 56 58 header

abbrev pub header_records : List ℕ → List ℕ
header_records header = cols 59 73 header

-- CRE or DEB
abbrev pub header_side : List ℕ → List ℕ
header_side header = cols 74 76 header

abbrev pub header_transactions : List ℕ → List ℕ
header_transactions header = cols 77 91 header

abbrev pub creation_moment : List ℕ → List ℕ
creation_moment header = cols 92 105 header

abbrev pub header_version : List ℕ → List ℕ
header_version header = cols 106 111 header

abbrev pub header_filler : List ℕ → List ℕ
header_filler header = cols 112 161 header

-- ---- the footer
-- the total with VAT
abbrev pub footer_total : List ℕ → List ℕ
footer_total footer = cols 2 16 footer

abbrev pub footer_filler : List ℕ → List ℕ
footer_filler footer = cols 17 106 footer
