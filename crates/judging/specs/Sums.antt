-- What was accepted and what was refused of a file: how many lines, and the sums of their amounts with VAT. Assumes nothing.
use Rattle.std.specs.Prelude.{◌≡◌, Bool, true, false, not, cond, List, ℕ, ◌+◌, ◌^◌, ◌≤◌, ◌<◌, length, get_or, eqb}
use Rattle.lines.specs.Below.{sum_below}
use Rattle.lines.specs.Number.{all_digits}
use Rattle.lines.specs.Rows.{line_place, most_lines}
use Rattle.passage.specs.Passage.{gross_amount}
use Rattle.tif.specs.Body.{line_at, amount_at}
use Rattle.tif.specs.Columns.{tif_layout}
use Rattle.verdicts.specs.Verdict.{word_number}
use Rattle.judging.specs.declared.sums.Sums.{Sums}
use Rattle.judging.specs.declared.sums.Tally.{Tally}

-- line k is accepted: the number in its word is 0
unfoldable pub is_accepted : List ℕ → ℕ → Bool
is_accepted words k = eqb (word_number (get_or words k 0)) 0

-- line k is one of those to count: the refused ones, or the accepted ones
unfoldable pub is_counted : Bool → List ℕ → ℕ → Bool
is_counted refused words k = cond refused (not (is_accepted words k)) (is_accepted words k)

unfoldable pub one_at : Bool → List ℕ → ℕ → ℕ
one_at refused words k = cond (is_counted refused words k) 1 0

unfoldable pub amount_of : Bool → List ℕ → List ℕ → ℕ → ℕ
amount_of refused tif words k = cond (is_counted refused words k) (amount_at tif k) 0

-- how many are refused, or accepted
unfoldable pub count_of : Bool → List ℕ → ℕ
count_of refused words = sum_below (length words) (one_at refused words)

-- the sum of their amounts
unfoldable pub total_of : Bool → List ℕ → List ℕ → ℕ
total_of refused tif words = sum_below (length words) (amount_of refused tif words)

abbrev pub tally_with : ℕ → ℕ → Tally
tally_with count amount = record { count = record { 0 = count }; amount = record { 0 = amount } }

abbrev pub tally_of : Bool → List ℕ → List ℕ → Tally
tally_of refused tif words = tally_with (count_of refused words) (total_of refused tif words)

abbrev pub sums_of : List ℕ → List ℕ → Sums
sums_of tif words = record { accepted = tally_of false tif words; refused = tally_of true tif words }

-- a tally with one more line of this amount, where it is counted
abbrev pub tally_plus : Bool → Tally → ℕ → Tally
tally_plus counted t amount = tally_with (t.count.0 + cond counted 1 0) (t.amount.0 + cond counted amount 0)

-- the sums with one more line, of this word and amount
abbrev pub sums_plus : ℕ → Sums → ℕ → Sums
sums_plus word sums amount =
    record { accepted = tally_plus (eqb (word_number word) 0) sums.accepted amount; refused = tally_plus (not (eqb (word_number word) 0)) sums.refused amount }

-- the sums of the first k lines
abbrev pub sums_below : List ℕ → List ℕ → ℕ → Sums
sums_below tif words k =
    record {
      accepted = tally_with (sum_below k (one_at false words)) (sum_below k (amount_of false tif words));
      refused = tally_with (sum_below k (one_at true words)) (sum_below k (amount_of true tif words));
    }

-- a tally that can take one more line of this amount
pub record Roomy (t : Tally) (amount : ℕ) : Type 0 where
  pub counted : t.count.0 + 1 < 2 ^ 64
  pub summed : t.amount.0 + amount < 2 ^ 64

-- a word for each of not too many lines, whose amounts are digits
pub record Worded (tif words : List ℕ) : Type 0 where
  pub lined : line_place tif_layout (length words) ≤ length tif
  pub few : length words ≤ most_lines
  pub digits : (k : ℕ) → k < length words → all_digits (gross_amount (line_at tif k)) ≡ true
