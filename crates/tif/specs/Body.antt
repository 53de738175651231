-- The lines of a TIF: their form and the exact sum of their amounts with VAT. Assumes nothing.
use Rattle.std.specs.Prelude.{Bool, cond, List, [], ◌∷◌, ℕ, eqb, Option, Some, None}
use Rattle.lines.specs.Below.{all_below, sum_below}
use Rattle.lines.specs.Columns.{col}
use Rattle.lines.specs.Number.{all_digits, number_of}
use Rattle.lines.specs.Rows.{line_of}
use Rattle.lines.specs.declared.kinds.Gross.{Gross}
use Rattle.passage.specs.Passage.{gross_amount}
use Rattle.tif.specs.Columns.{tif_layout}
use Rattle.tif.specs.Every.{every}

abbrev pub gross_of : ℕ → Gross
gross_of v = record { 0 = v }

-- an amount that is stated where the form is right
unfoldable pub amount_if : Bool → ℕ → Option Gross
amount_if formed v = cond formed (Some (gross_of v)) None

-- column 1 is "1"; the amount with VAT is digits
abbrev pub line_tests : List ℕ → List Bool
line_tests line =
    eqb (col 1 line) 49
    ∷ all_digits (gross_amount line)
    ∷ []

unfoldable pub line_sound : List ℕ → Bool
line_sound line = every (line_tests line)

unfoldable pub line_amount : List ℕ → Option Gross
line_amount line = amount_if (line_sound line) (number_of (gross_amount line))

-- line k of a file, counted from 0
abbrev pub line_at : List ℕ → ℕ → List ℕ
line_at tif k = line_of tif_layout tif k

unfoldable pub line_sound_at : List ℕ → ℕ → Bool
line_sound_at tif k = line_sound (line_at tif k)

-- each of the n lines is so
unfoldable pub body_sound : List ℕ → ℕ → Bool
body_sound tif n = all_below n (line_sound_at tif)

-- the amount with VAT of line k
unfoldable pub amount_at : List ℕ → ℕ → ℕ
amount_at tif k = number_of (gross_amount (line_at tif k))

-- the exact sum of the amounts with VAT
unfoldable pub body_total : List ℕ → ℕ → ℕ
body_total tif n = sum_below n (amount_at tif)

unfoldable pub body_amount : List ℕ → ℕ → Option Gross
body_amount tif n = amount_if (body_sound tif n) (body_total tif n)
