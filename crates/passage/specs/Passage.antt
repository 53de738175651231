-- A line of a TIF body: one passage. Its columns, counted from 1 as AP-3.7 (2.2) counts them. Assumes nothing.
use Rattle.std.specs.Prelude.{List, [], ◌∷◌, ℕ}
use Rattle.lines.specs.Columns.{cols, columns}
use Rattle.lines.specs.declared.columns.Columns.{Columns}

-- how wide a line is, its line feed included: W
abbrev pub line_width : ℕ
line_width = 810

abbrev pub type_of_transit : List ℕ → List ℕ
type_of_transit line = cols 2 3 line

abbrev pub pan : List ℕ → List ℕ
pan line = cols 4 22 line

abbrev pub exit_moment : List ℕ → List ℕ
exit_moment line = cols 61 74 line

abbrev pub exit_actor : List ℕ → List ℕ
exit_actor line = cols 77 82 line

abbrev pub station : List ℕ → List ℕ
station line = cols 84 87 line

abbrev pub lane : List ℕ → List ℕ
lane line = cols 88 91 line

-- the fee without VAT
abbrev pub net_fee : List ℕ → List ℕ
net_fee line = cols 115 125 line

-- the amount with VAT
abbrev pub gross_amount : List ℕ → List ℕ
gross_amount line = cols 137 147 line

abbrev pub counter : List ℕ → List ℕ
counter line = cols 228 239 line

abbrev pub declared_plate : List ℕ → List ℕ
declared_plate line = cols 240 249 line

abbrev pub declared_nation : List ℕ → List ℕ
declared_nation line = cols 250 251 line

abbrev pub detected_plate : List ℕ → List ℕ
detected_plate line = cols 252 261 line

abbrev pub detected_nation : List ℕ → List ℕ
detected_nation line = cols 262 263 line

abbrev pub fuel : List ℕ → List ℕ
fuel line = cols 293 295 line

abbrev pub emission : List ℕ → List ℕ
emission line = cols 296 297 line

abbrev pub tariff_class : List ℕ → List ℕ
tariff_class line = cols 298 299 line

-- what two lines of one file must not share (L6)
abbrev pub repeat_spans : List Columns
repeat_spans = columns 2 22 ∷ columns 61 74 ∷ columns 77 82 ∷ columns 84 91 ∷ columns 252 263 ∷ []

-- what a debit and its credit share (L8)
abbrev pub credit_spans : List Columns
credit_spans = columns 4 22 ∷ columns 61 74 ∷ columns 77 82 ∷ columns 84 91 ∷ columns 252 263 ∷ columns 137 147 ∷ []
