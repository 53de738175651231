-- CRE, DEB or neither. Assumes nothing.
use Rattle.std.specs.Prelude.{Bool, true, false, List, [], ◌∷◌, ℕ, length, ltb}
use Rattle.lines.specs.FirstOf.{Row, ◌⇒◌, first_of}
use Rattle.lines.specs.Same.{same}
use Rattle.tif.specs.Columns.{header_side}
use Rattle.tif.specs.declared.side.Side.{Side}
use Rattle.tif.specs.declared.side.Side.TheVariants.{Credit, Debit, Neither}

-- the paper's text of each side: `CRE`, `DEB`, and `000` where there is none
abbrev pub side_text : Side → List ℕ
side_text Credit = 67 ∷ 82 ∷ 69 ∷ []
side_text Debit = 68 ∷ 69 ∷ 66 ∷ []
side_text Neither = 48 ∷ 48 ∷ 48 ∷ []

-- the side that a text names, and neither where it is another text
abbrev pub text_rows : List ℕ → List (Row Side)
text_rows text = (same text (side_text Credit) ⇒ Credit) ∷ (same text (side_text Debit) ⇒ Debit) ∷ []

unfoldable pub side_in : List ℕ → Side
side_in text = first_of (text_rows text) Neither

-- bytes 74 to 76 of the file, whatever its length or line feeds; missing in fewer than 76 bytes
abbrev pub side_rows : List ℕ → List (Row Side)
side_rows tif = (ltb (length tif) 76 ⇒ Neither) ∷ text_rows (header_side tif)

unfoldable pub side_of : List ℕ → Side
side_of tif = first_of (side_rows tif) Neither

abbrev pub is_sided : Side → Bool
is_sided Credit = true
is_sided Debit = true
is_sided Neither = false
