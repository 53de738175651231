-- Which values a TIC can have: those that the rendering is for. Assumes nothing.
use Rattle.std.specs.Prelude.{◌≡◌, Bool, true, not, List, [], ◌∷◌, ℕ, ◌^◌, ◌<◌, length, eqb}
use Rattle.lines.specs.Below.{sum_below}
use Rattle.lines.specs.Class.{all_bytes, all_of}
use Rattle.lines.specs.Columns.{col}
use Rattle.lines.specs.Number.{all_digits, number_of}
use Rattle.lines.specs.declared.class.Class.TheVariants.{DigitOrCapital}
use Rattle.moment.specs.Moment.{is_moment}
use Rattle.passage.specs.Passage.{gross_amount}
use Rattle.tif.specs.Every.{every}
use Rattle.tif.specs.Name.{is_actor, is_file_stem}
use Rattle.tic_parts.specs.Reading.{head_agrees, sums_fit}
use Rattle.tic_text.specs.Text.{Tic, listed_count}
use Rattle.tic_text.specs.declared.values.TicValues.{TicValues}

-- any byte but a line feed
unfoldable pub not_feed : ℕ → Bool
not_feed b = not (eqb b 10)

-- a listed line, columns 1 to 809: "1" first, no line feed inside, amount digits
abbrev pub line_tests : List ℕ → List Bool
line_tests line =
    eqb (length line) 809
    ∷ eqb (col 1 line) 49
    ∷ all_bytes not_feed line
    ∷ all_digits (gross_amount line)
    ∷ []

unfoldable pub line_sound : List ℕ → Bool
line_sound line = every (line_tests line)

-- its code: two card characters
abbrev pub code_tests : List ℕ → List Bool
code_tests code = eqb (length code) 2 ∷ all_of DigitOrCapital code ∷ []

unfoldable pub code_sound : List ℕ → Bool
code_sound code = every (code_tests code)

-- the amount with VAT of line k
unfoldable pub amount_of : Tic → ℕ → ℕ
amount_of v k = number_of (gross_amount (v.line k))

-- a name's actor and stem, a real moment; counts that agree with each other, the lines and the acceptance; lines and codes of the right form; sums that the lines determine, or any fifteen digits
pub record Sound (v : Tic) : Type 0 where
  pub receiver : is_actor v.receiver ≡ true
  pub stem : is_file_stem v.stem ≡ true
  pub moment : is_moment v.moment ≡ true
  pub counts : head_agrees v.head (listed_count v) ≡ true
  pub line : (k : ℕ) → k < listed_count v → line_sound (v.line k) ≡ true
  pub code : (k : ℕ) → k < listed_count v → code_sound (v.code k) ≡ true
  pub sums : sums_fit v.head v.sums (sum_below (listed_count v) (amount_of v)) ≡ true
  pub fifteen : v.sums.accepted.0 < 10 ^ 15

-- the numbers among the values
abbrev pub numbers_of : Tic → TicValues
numbers_of v = record { head = v.head; listed = listed_count v; sums = v.sums }
