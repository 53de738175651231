-- The footer of a TIF: what it must hold, and the total that it states. Assumes nothing.
use Rattle.std.specs.Prelude.{Bool, List, [], ◌∷◌, ℕ, eqb, Option}
use Rattle.lines.specs.Class.{all_of}
use Rattle.lines.specs.Columns.{col}
use Rattle.lines.specs.Number.{all_digits, number_of}
use Rattle.lines.specs.declared.class.Class.TheVariants.{Only}
use Rattle.lines.specs.declared.kinds.Gross.{Gross}
use Rattle.tif.specs.Body.{amount_if}
use Rattle.tif.specs.Columns.{footer_total, footer_filler}
use Rattle.tif.specs.Every.{every}

-- column 1 is "2"; a filler of zeros; a total of digits
abbrev pub footer_tests : List ℕ → List Bool
footer_tests footer =
    eqb (col 1 footer) 50
    ∷ all_of (Only 48) (footer_filler footer)
    ∷ all_digits (footer_total footer)
    ∷ []

unfoldable pub footer_sound : List ℕ → Bool
footer_sound footer = every (footer_tests footer)

-- the total that a footer states, by value
abbrev pub total_of : List ℕ → ℕ
total_of footer = number_of (footer_total footer)

unfoldable pub footer_amount : List ℕ → Option Gross
footer_amount footer = amount_if (footer_sound footer) (total_of footer)
