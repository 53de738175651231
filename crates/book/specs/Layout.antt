-- The parts of an agreement book, on any bytes. Agreements and periods are counted from 0 here, columns from 1. The width `w` of a period is a parameter. Assumes nothing.
use Rattle.std.specs.Prelude.{List, ℕ, zero, suc, ◌+◌, take, drop}
use Rattle.lines.specs.Columns.{cols}
use Rattle.lines.specs.Number.{big_endian}
use Rattle.lines.specs.Rows.{line_place, line_of}
use Rattle.lines.specs.declared.rows.Layout.{Layout}

-- bytes of a period
abbrev pub width : ℕ
width = 40

-- the book opens with two big-endian bytes for the number of agreements
unfoldable pub agreements : List ℕ → ℕ
agreements book = big_endian (cols 1 2 book)

-- then an entry of 23 bytes for each
abbrev pub entry_layout : Layout
entry_layout = record { header = 2; line = 23; footer = 0 }

abbrev pub entry_of : List ℕ → ℕ → List ℕ
entry_of book i = line_of entry_layout book i

-- the place after entry i
abbrev pub entry_end : ℕ → ℕ
entry_end i = line_place entry_layout i + 23

-- a PAN of 19 bytes
unfoldable pub pan_of : List ℕ → ℕ → List ℕ
pan_of book i = cols 1 19 (entry_of book i)

-- and a big-endian offset of the body from the start of the book
unfoldable pub offset_of : List ℕ → ℕ → ℕ
offset_of book i = big_endian (cols 20 23 (entry_of book i))

-- a body is a lease reference of 12 bytes, two big-endian bytes with the number of periods,
unfoldable pub body_head : List ℕ → ℕ → List ℕ
body_head book at = take 14 (drop at book)

unfoldable pub periods_at : List ℕ → ℕ → ℕ
periods_at book at = big_endian (cols 13 14 (body_head book at))

-- and then the periods
abbrev pub period_layout : ℕ → ℕ → Layout
period_layout w at = record { header = at + 14; line = w; footer = 0 }

-- period j of the body at `at`
unfoldable pub period_of : ℕ → List ℕ → ℕ → ℕ → List ℕ
period_of w book at j = line_of (period_layout w at) book j

-- the place after period j
abbrev pub period_end : ℕ → ℕ → ℕ → ℕ
period_end w at j = line_place (period_layout w at) j + w

-- the place after a body of n periods
abbrev pub body_of : ℕ → ℕ → ℕ → ℕ
body_of w at n = line_place (period_layout w at) n

-- the place after the body at `at`
unfoldable pub body_end : ℕ → List ℕ → ℕ → ℕ
body_end w book at = body_of w at (periods_at book at)

-- where the body of agreement i has to stand: the first right after the entries, each other right after the one before it
unfoldable pub body_place : ℕ → List ℕ → ℕ → ℕ
body_place w book zero = line_place entry_layout (agreements book)
body_place w book (suc i) = body_end w book (body_place w book i)

-- a period's fields
abbrev pub plate_part : List ℕ → List ℕ
plate_part period = cols 1 10 period

abbrev pub nation_part : List ℕ → List ℕ
nation_part period = cols 11 12 period

abbrev pub start_part : List ℕ → List ℕ
start_part period = cols 13 26 period

abbrev pub end_part : List ℕ → List ℕ
end_part period = cols 27 40 period
