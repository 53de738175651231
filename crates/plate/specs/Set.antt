-- The bytes that a plate is written in. Assumes nothing.
use Rattle.std.specs.Prelude.{Bool, ◌&&◌, ◌||◌, ℕ, eqb, leb}
use Rattle.lines.specs.Class.{is_digit, is_capital}

-- `a` to `z`
unfoldable pub is_small : ℕ → Bool
is_small b = leb 97 b && leb b 122

-- the ISO 8859-1 bytes C4, D6, DC, E4, F9
unfoldable pub is_marked_letter : ℕ → Bool
is_marked_letter b = eqb b 196 || eqb b 214 || eqb b 220 || eqb b 228 || eqb b 249

-- a byte of the plate set: 0-9, A-Z, a-z and the five letters with marks
unfoldable pub is_plate_byte : ℕ → Bool
is_plate_byte b = is_digit b || is_capital b || is_small b || is_marked_letter b
