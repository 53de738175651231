-- Worked lines of plates, one table, computed. Assumes nothing.
use Rattle.std.specs.Prelude.{◌≡◌, refl, Bool, true, false, not, ◌&&◌, List, [], ◌∷◌, ℕ}
use Rattle.lines.specs.Below.{all_below, some_below, first_below}
use Rattle.lines.specs.Class.{is_digit, is_capital, is_of, byte_is, all_bytes, all_of, place_of, padded_with}
use Rattle.plate.specs.Set.{is_plate_byte, is_small, is_marked_letter}
use Rattle.plate.specs.Plate.{padded_plate, is_filled, nation_class, two_of, plate_on_line, plate_in_book}

infix 20 ◌gives◌
-- what is computed, and the paper's answer
pub data Worked : Type 0 where
  ◌gives◌ : Bool → Bool → Worked

abbrev agrees : Bool → Bool → Bool
agrees true b = b
agrees false b = not b

abbrev pub all_agree : List Worked → Bool
all_agree [] = true
all_agree ((computed gives answer) ∷ rows) = agrees computed answer && all_agree rows

-- "AB12345" and three blanks
abbrev filled : List ℕ
filled = 65 ∷ 66 ∷ 49 ∷ 50 ∷ 51 ∷ 52 ∷ 53 ∷ 32 ∷ 32 ∷ 32 ∷ []

-- the same with a digit after the first blank
abbrev broken : List ℕ
broken = 65 ∷ 66 ∷ 49 ∷ 50 ∷ 51 ∷ 52 ∷ 53 ∷ 32 ∷ 54 ∷ 32 ∷ []

abbrev blank : List ℕ
blank = 32 ∷ 32 ∷ 32 ∷ 32 ∷ 32 ∷ 32 ∷ 32 ∷ 32 ∷ 32 ∷ 32 ∷ []

-- "NO"
abbrev nation : List ℕ
nation = 78 ∷ 79 ∷ []

abbrev no_nation : List ℕ
no_nation = 32 ∷ 32 ∷ []

-- byte C4 is in the plate set, C5 is not; then a plate filled, blank, and wrong, on a line and in the book
abbrev pub worked_lines : List Worked
worked_lines =
    (is_plate_byte 196 gives true)
    ∷ (is_plate_byte 197 gives false)
    ∷ (plate_on_line filled nation gives true)
    ∷ (plate_in_book filled nation gives true)
    ∷ (plate_on_line blank no_nation gives true)
    ∷ (plate_in_book blank no_nation gives false)
    ∷ (plate_on_line filled no_nation gives false)
    ∷ (plate_on_line blank nation gives false)
    ∷ (plate_in_book blank nation gives false)
    ∷ (plate_on_line broken nation gives false)
    ∷ (plate_in_book broken nation gives false)
    ∷ []

pub worked : all_agree worked_lines ≡ true
unfolding is_plate_byte is_small is_marked_letter is_digit is_capital is_of byte_is all_bytes all_of place_of padded_with all_below some_below first_below padded_plate is_filled nation_class two_of plate_on_line plate_in_book
worked = refl
