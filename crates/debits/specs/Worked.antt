-- Worked lines on open debits, computed: two free debits and three equal credits. Assumes nothing.
use Rattle.std.specs.Prelude.{◌≡◌, refl, Bool, true, false, List, [], ◌∷◌, ◌++◌, ℕ, replicate}
use Rattle.lines.specs.Below.{all_below, some_below, first_below, table_below, sum_below}
use Rattle.lines.specs.Class.{is_digit, is_of, byte_is, all_bytes, all_of}
use Rattle.lines.specs.Number.{all_digits}
use Rattle.lines.specs.Rows.{line_of, count_fits}
use Rattle.lines.specs.Same.{differ_at, first_difference, same}
use Rattle.lines.specs.Spans.{span_agrees, agree_across, agree_on}
use Rattle.debits.specs.Form.{is_debit_type, debit_sound, debit_sound_at, lines_sound, mark_sound_at, marks_sound, debits_sound}
use Rattle.debits.specs.Taking.{agrees, unmarked, free_for, place_taken, taken, number_taken}
use Rattle.debits.specs.Counting.{one_if, count_below}
use Rattle.debits.specs.Credits.{marks_after, taken_at, credit_accepted, credit_refused}

-- "1C1", then zeros, then line feed
unfoldable pub debit : List ℕ
debit = 49 ∷ 67 ∷ 49 ∷ replicate 806 48 ++ (10 ∷ [])

-- "1R2", then the same
unfoldable pub credit : List ℕ
credit = 49 ∷ 82 ∷ 50 ∷ replicate 806 48 ++ (10 ∷ [])

abbrev pub debits : List ℕ
debits = debit ++ debit

-- every line of the file is that credit, and each reaches the test
abbrev pub equal_credits : ℕ → List ℕ
equal_credits k = credit

abbrev pub all_reach : ℕ → Bool
all_reach k = true

-- with these marks, how many of three equal credits are accepted, and how many are L8
unfoldable pub outcome : List ℕ → List ℕ
outcome marks = count_below 3 (credit_accepted debits equal_credits all_reach marks) ∷ count_below 3 (credit_refused debits equal_credits all_reach marks) ∷ []

-- the number of the debit that line k takes, counted from 1, and 0 for none
unfoldable pub number_at : List ℕ → ℕ → ℕ
number_at marks k = number_taken (taken_at debits equal_credits all_reach marks k)

pub record Rows : Type 0 where
  -- the debits are of the right form
  pub sound : debits_sound debits (0 ∷ 0 ∷ []) ≡ true
  -- a line feed inside a debit is no fault, none at all is a list of debits, and the characters "0" and "1" are no marks
  pub feed_inside : debits_sound (49 ∷ 68 ∷ 10 ∷ replicate 806 48 ++ (10 ∷ [])) (1 ∷ []) ≡ true
  pub no_debits : debits_sound [] [] ≡ true
  pub mark_digits : debits_sound debits (48 ∷ 49 ∷ []) ≡ false
  -- two free debits agree: three equal credits give two acceptances and one L8
  pub two_free : outcome (0 ∷ 0 ∷ []) ≡ 2 ∷ 1 ∷ []
  -- one of them marked: one acceptance, two L8
  pub first_marked : outcome (1 ∷ 0 ∷ []) ≡ 1 ∷ 2 ∷ []
  pub second_marked : outcome (0 ∷ 1 ∷ []) ≡ 1 ∷ 2 ∷ []
  -- the first debit is taken first, and a marked one is passed over
  pub in_order : table_below 3 (number_at (0 ∷ 0 ∷ [])) ≡ 1 ∷ 2 ∷ 0 ∷ []
  pub passed_over : table_below 3 (number_at (1 ∷ 0 ∷ [])) ≡ 2 ∷ 0 ∷ 0 ∷ []

pub rows : Rows
unfolding debit credit outcome number_at count_below sum_below one_if table_below credit_accepted credit_refused taken_at marks_after taken place_taken first_below some_below free_for unmarked agrees agree_on agree_across all_below span_agrees same first_difference differ_at line_of debits_sound count_fits lines_sound debit_sound_at debit_sound is_debit_type all_digits all_of all_bytes byte_is is_of is_digit marks_sound mark_sound_at
rows = record { sound = refl; feed_inside = refl; no_debits = refl; mark_digits = refl; two_free = refl; first_marked = refl; second_marked = refl; in_order = refl; passed_over = refl }
