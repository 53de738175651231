-- A plate with its nation, on a line of a TIF and in the book. Assumes nothing.
use Rattle.std.specs.Prelude.{Bool, ◌&&◌, cond, List, ℕ, length, eqb, ltb}
use Rattle.lines.specs.Class.{all_bytes, all_of, filled_to, padded_with}
use Rattle.lines.specs.declared.class.Class.{Class}
use Rattle.lines.specs.declared.class.Class.TheVariants.{Capital, Only}
use Rattle.plate.specs.Set.{is_plate_byte}

unfoldable pub all_plate_bytes : List ℕ → Bool
all_plate_bytes s = all_bytes is_plate_byte s

-- no byte but blanks and those of the set, and no other byte after a blank
unfoldable pub padded_plate : List ℕ → Bool
padded_plate plate = padded_with is_plate_byte plate

-- filled: something stands before the first blank
unfoldable pub is_filled : List ℕ → Bool
is_filled plate = ltb 0 (filled_to plate)

-- a nation of two bytes of one class
unfoldable pub two_of : Class → List ℕ → Bool
two_of c nation = eqb (length nation) 2 && all_of c nation

-- what the nation is made of: capitals with a filled plate, blanks with a blank one
unfoldable pub nation_class : List ℕ → Class
nation_class plate = cond (is_filled plate) Capital (Only 32)

-- on a line a plate may be blank: two capitals with a filled plate, two blanks with a blank one
unfoldable pub plate_on_line : List ℕ → List ℕ → Bool
plate_on_line plate nation = padded_plate plate && two_of (nation_class plate) nation

-- in the book: filled, with two capitals
unfoldable pub plate_in_book : List ℕ → List ℕ → Bool
plate_in_book plate nation = padded_plate plate && is_filled plate && two_of Capital nation
