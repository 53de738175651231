-- Numbers as bytes: decimal digits, and big-endian. Assumes nothing.
use Rattle.std.specs.Prelude.{Bool, cond, List, [], ◌∷◌, ◌++◌, ℕ, zero, suc, ◌+◌, ◌-◌, ◌*◌, ◌/◌, ◌%◌, ◌^◌, ◌<◌, ◌≤◌, ◌≡◌, length, get_or, Option, Some, None}
use Rattle.lines.specs.Class.{all_of}
use Rattle.lines.specs.declared.class.Class.TheVariants.{Digit}

-- the number that the first k bytes write to a base, the byte `nought` standing for 0
unfoldable pub value_below : ℕ → ℕ → ℕ → List ℕ → ℕ
value_below base nought zero s = 0
value_below base nought (suc k) s = value_below base nought k s * base + (get_or s k 0 - nought)

unfoldable pub all_digits : List ℕ → Bool
all_digits s = all_of Digit s

-- the number that decimal digits write
unfoldable pub number_of : List ℕ → ℕ
number_of s = value_below 10 48 (length s) s

-- the number that big-endian bytes write
unfoldable pub big_endian : List ℕ → ℕ
big_endian s = value_below 256 0 (length s) s

-- what a field that should be digits holds
unfoldable pub read_digits : List ℕ → Option ℕ
read_digits s = cond (all_digits s) (Some (number_of s)) None

-- its value, and zero where it is not digits
unfoldable pub value_of : List ℕ → ℕ
value_of s = cond (all_digits s) (number_of s) 0

-- the last `width` decimal digits of a number, with zeros in front
unfoldable pub digits_of : ℕ → ℕ → List ℕ
digits_of zero v = []
digits_of (suc w) v = digits_of w (v / 10) ++ ((48 + v % 10) ∷ [])

-- bytes that write a number to a base, each a digit of the base, and few enough that the number fits
pub record Written (base nought : ℕ) (s : List ℕ) : Type 0 where
  pub digit : (i : ℕ) → i < length s → (nought ≤ get_or s i 0) × (get_or s i 0 - nought < base)
  pub fits : base ^ length s ≤ 2 ^ 64

-- a big-endian number, and that it has no more bytes than were read
pub record BigEndian (s : List ℕ) (r : ℕ) : Type 0 where
  pub value : r ≡ big_endian s
  pub small : r < 256 ^ length s
