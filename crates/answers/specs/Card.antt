-- The code card: the codes of the verdict numbers in use, in order. Assumes nothing.
use Rattle.std.specs.Prelude.{Bool, true, false, ◌&&◌, List, ℕ, ◌-◌, ◌*◌, ◌≤◌, length, eqb}
use Rattle.lines.specs.Class.{all_of}
use Rattle.lines.specs.Columns.{cols}
use Rattle.lines.specs.declared.class.Class.TheVariants.{DigitOrCapital}

-- verdicts L1 to L8, and L9 where a station table is lent
abbrev pub verdicts_in_use : Bool → ℕ
verdicts_in_use true = 9
verdicts_in_use false = 8

-- two digits or capitals for each verdict in use; two codes may be equal
unfoldable pub is_card : Bool → List ℕ → Bool
is_card lent card = eqb (length card) (verdicts_in_use lent * 2) && all_of DigitOrCapital card

-- the code of verdict number k, counted from 1
unfoldable pub code_of : List ℕ → ℕ → List ℕ
code_of card k = cols (k * 2 - 1) (k * 2) card

-- verdict number k has a code on the card
pub record Coded (card : List ℕ) (k : ℕ) : Type 0 where
  pub counted : 1 ≤ k
  pub known : k * 2 ≤ length card
