-- Classes of characters, and texts of one class. Assumes nothing.
use Rattle.std.specs.Prelude.{Bool, ◌&&◌, ◌||◌, List, ℕ, length, get_or, take, drop, eqb, leb, ltb}
use Rattle.lines.specs.Below.{all_below, first_below}
use Rattle.lines.specs.declared.class.Class.{Class}
use Rattle.lines.specs.declared.class.Class.TheVariants.{Digit, Capital, DigitOrCapital, Only}

-- `0` to `9`
unfoldable pub is_digit : ℕ → Bool
is_digit b = leb 48 b && leb b 57

-- `A` to `Z`
unfoldable pub is_capital : ℕ → Bool
is_capital b = leb 65 b && leb b 90

unfoldable pub is_of : Class → ℕ → Bool
is_of Digit b = is_digit b
is_of Capital b = is_capital b
is_of DigitOrCapital b = is_digit b || is_capital b
is_of (Only x) b = eqb b x

-- the byte at i is one of those that p names
unfoldable pub byte_is : (ℕ → Bool) → List ℕ → ℕ → Bool
byte_is p s i = p (get_or s i 0)

-- every byte is
unfoldable pub all_bytes : (ℕ → Bool) → List ℕ → Bool
all_bytes p s = all_below (length s) (byte_is p s)

unfoldable pub all_of : Class → List ℕ → Bool
all_of c s = all_bytes (is_of c) s

-- the first place with a byte of the class, and the length where there is none
unfoldable pub place_of : Class → List ℕ → ℕ
place_of c s = first_below (length s) (byte_is (is_of c) s)

-- where the blanks of a padded text begin
abbrev pub filled_to : List ℕ → ℕ
filled_to s = place_of (Only 32) s

-- bytes that p names, as many as there are, then blanks to the end
unfoldable pub padded_with : (ℕ → Bool) → List ℕ → Bool
padded_with p s = all_bytes p (take (filled_to s) s) && all_of (Only 32) (drop (filled_to s) s)

-- one or more bytes of the class, then blanks to the end
unfoldable pub filled_with : Class → List ℕ → Bool
filled_with c s = ltb 0 (filled_to s) && padded_with (is_of c) s
