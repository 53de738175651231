-- The columns of a TIC, counted from 1 as AP-3.7 (3.1, 3.2, 3.3) counts them. Assumes nothing.
use Rattle.std.specs.Prelude.{List, ℕ}
use Rattle.lines.specs.Columns.{cols}
use Rattle.lines.specs.declared.rows.Layout.{Layout}

-- header, listed lines and footer, line feeds included
abbrev pub tic_layout : Layout
tic_layout = record { header = 196; line = 812; footer = 128 }

-- ---- the header
-- the TIC's sender is the TIF's receiver
abbrev pub tif_receiver : List ℕ → List ℕ
tif_receiver h = cols 2 7 h

-- and its receiver the TIF's sender
abbrev pub tif_sender : List ℕ → List ℕ
tif_sender h = cols 8 13 h

-- "TIC", and columns 4 to 21 of the TIF's name
abbrev pub own_kind : List ℕ → List ℕ
own_kind h = cols 14 16 h

abbrev pub own_stem : List ℕ → List ℕ
own_stem h = cols 17 34 h

-- "TIF", and the same columns of the name
abbrev pub received_kind : List ℕ → List ℕ
received_kind h = cols 35 37 h

abbrev pub received_stem : List ℕ → List ℕ
received_stem h = cols 38 55 h

-- of which the first six are the TIF's sender
abbrev pub received_sender : List ℕ → List ℕ
received_sender h = cols 38 43 h

abbrev pub reception_moment : List ℕ → List ℕ
reception_moment h = cols 56 69 h

abbrev pub tic_currency : List ℕ → List ℕ
tic_currency h = cols 70 72 h

-- records
abbrev pub accepted_field : List ℕ → List ℕ
accepted_field h = cols 73 87 h

abbrev pub rejected_field : List ℕ → List ℕ
rejected_field h = cols 88 102 h

abbrev pub side_field : List ℕ → List ℕ
side_field h = cols 103 105 h

-- transactions
abbrev pub accepted_again : List ℕ → List ℕ
accepted_again h = cols 106 120 h

abbrev pub rejected_again : List ℕ → List ℕ
rejected_again h = cols 121 135 h

abbrev pub tic_version : List ℕ → List ℕ
tic_version h = cols 136 141 h

-- the number of the TIC, which stays blank
abbrev pub tic_number : List ℕ → List ℕ
tic_number h = cols 142 147 h

abbrev pub header_filler : List ℕ → List ℕ
header_filler h = cols 148 193 h

abbrev pub acceptance_field : List ℕ → List ℕ
acceptance_field h = cols 194 195 h

-- ---- a listed line: the line as it is shown, and its code
abbrev pub shown_part : List ℕ → List ℕ
shown_part row = cols 1 809 row

abbrev pub code_part : List ℕ → List ℕ
code_part row = cols 810 811 row

-- ---- the footer
abbrev pub accepted_sum_field : List ℕ → List ℕ
accepted_sum_field f = cols 2 16 f

abbrev pub rejected_sum_field : List ℕ → List ℕ
rejected_sum_field f = cols 17 31 f

abbrev pub footer_filler : List ℕ → List ℕ
footer_filler f = cols 32 127 f
