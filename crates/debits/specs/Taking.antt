-- The debit that a credit takes (L8), and the marks afterwards. Assumes nothing.
use Rattle.std.specs.Prelude.{◌≡◌, Bool, true, false, ◌&&◌, cond, List, ℕ, suc, ◌*◌, ◌-◌, ◌≤◌, length, get_or, set, eqb, ltb, Option, Some, None}
use Rattle.lines.specs.Below.{first_below}
use Rattle.lines.specs.Spans.{agree_on}
use Rattle.passage.specs.Passage.{line_width, credit_spans}
use Rattle.debits.specs.Form.{debit_line}

-- debit and credit agree: PAN, exit moment, actor, station and lane, detected plate and nation, and amount with VAT are equal
unfoldable pub agrees : List ℕ → List ℕ → ℕ → Bool
agrees debits credit j = agree_on credit_spans (debit_line debits j) credit

-- the mark at j is 0
unfoldable pub unmarked : List ℕ → ℕ → Bool
unmarked marks j = eqb (get_or marks j 0) 0

-- the debit at j is unmarked and agrees with the credit
unfoldable pub free_for : List ℕ → List ℕ → List ℕ → ℕ → Bool
free_for debits marks credit j = unmarked marks j && agrees debits credit j

-- the place of the first such debit, counted from 0, and the number of marks where there is none
unfoldable pub place_taken : List ℕ → List ℕ → List ℕ → ℕ
place_taken debits marks credit = first_below (length marks) (free_for debits marks credit)

-- what the credit takes: that debit, by its number counted from 1, or none
unfoldable pub taken : List ℕ → List ℕ → List ℕ → Option ℕ
taken debits marks credit = cond (ltb (place_taken debits marks credit) (length marks)) (Some (suc (place_taken debits marks credit))) None

-- the credit took a debit
abbrev pub took_debit : Option ℕ → Bool
took_debit (Some m) = true
took_debit None = false

-- the number of the debit that was taken, counted from 1, and 0 for none
abbrev pub number_taken : Option ℕ → ℕ
number_taken (Some m) = m
number_taken None = 0

-- the mark of the debit that was taken becomes 1, and no other mark changes
abbrev pub marks_then : List ℕ → Option ℕ → List ℕ
marks_then marks (Some m) = set marks (m - 1) 1
marks_then marks None = marks

-- what is lent to take a debit: a line for each mark, and a line for the credit
pub record Lent (debits marks credit : List ℕ) : Type 0 where
  pub lined : length marks * line_width ≤ length debits
  pub whole : length credit ≡ line_width

-- what a credit took, and every mark afterwards
pub record Took (debits marks credit : List ℕ) (r : Option ℕ) (after : List ℕ) : Type 0 where
  pub answer : r ≡ taken debits marks credit
  pub marked : after ≡ marks_then marks r
  pub within : number_taken r ≤ length marks
