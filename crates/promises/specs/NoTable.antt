-- An empty station table changes nothing. Where none is lent a call is checked by E1 to E6 alone, its card has eight codes, and each of its lines is judged by
-- L1 to L8 alone: in the lists of tests the row of E8 and the row of L9 may be left out. All else that a call gives is defined by these with no word of a table.
-- Assumes nothing.
use Rattle.std.specs.Prelude.{◌≡◌, true, false, ◌&&◌, List, [], ◌++◌, ℕ, ◌+◌, ◌<◌, length, take, drop, eqb, Ok}
use Rattle.lines.specs.Below.{some_below}
use Rattle.lines.specs.Class.{all_of}
use Rattle.lines.specs.FirstOf.{Row, first_of}
use Rattle.lines.specs.declared.class.Class.TheVariants.{DigitOrCapital}
use Rattle.tif.specs.Body.{line_at}
use Rattle.chains.specs.Index.{member_of}
use Rattle.tst.specs.Form.{is_lent, table_sound}
use Rattle.tst.specs.Stations.{is_known_station}
use Rattle.verdicts.specs.LineTests.{line_rows, failing, test_line, passes}
use Rattle.verdicts.specs.Verdict.{verdict_number}
use Rattle.judging.specs.Judging.{is_credit_file, cover_on, accepted_by, taken_on, known_on, all_rows, verdict_on, reaches_at}
use Rattle.judging.proofs.WordLaws.{unlent_number}
use Rattle.answers.specs.Card.{is_card}
use Rattle.answers.specs.Fault.{lent_rows, check_lent, call_rows, check_call}
use Rattle.judge.specs.Call.{Call, check_of, judging_of}

-- a list of tests with the one at place n, counted from 0, left out
abbrev pub left_out : {A : Type 0} → ℕ → List (Row A) → List (Row A)
left_out n rows = take n rows ++ drop (n + 1) rows

module _ (c : Call) (none : c.tst ≡ []) where
  -- E1 to E6: the row of E8 is the third of those of what is lent
  pub checked_as_before : check_of c ≡ first_of (call_rows c.name c.received c.card c.names []) (first_of (left_out 2 (lent_rows c.book c.debits c.marks [])) (Ok tt))
  unfolding check_call check_lent first_of is_lent table_sound
  checked_as_before = rw none

  -- two bytes for each of L1 to L8
  pub card_as_before : is_card (is_lent c.tst) c.card ≡ (eqb (length c.card) 16 && all_of DigitOrCapital c.card)
  unfolding is_card is_lent
  card_as_before = rw none

  -- L1 to L8: the row of L9 is the fourth
  pub judged_as_before : (marks : List ℕ) (k : ℕ)
      → verdict_on (judging_of c) marks k
      ≡ first_of (left_out 3 (all_rows (judging_of c) marks k)) (accepted_by (judging_of c).side (cover_on c.book (line_at c.tif k)) (taken_on (judging_of c) marks k))
  unfolding verdict_on first_of is_lent is_known_station
  judged_as_before marks k = rw none

  -- no line is refused by L9
  pub none_by_L9 : (marks : List ℕ) (k : ℕ) → verdict_number (verdict_on (judging_of c) marks k) < 9
  unfolding is_lent
  none_by_L9 marks k = unlent_number (judging_of c) marks k (rw none)

  -- and the credits that come to L8 are those that pass L1 to L5
  pub reaching_as_before : (k : ℕ) → reaches_at (judging_of c) k ≡ (is_credit_file (judging_of c).side && passes (first_of (left_out 3 (failing (line_rows (judging_of c).side (judging_of c).sender (known_on (judging_of c) k) (line_at c.tif k)))) (Ok tt)))
  unfolding reaches_at test_line first_of is_lent is_known_station
  reaching_as_before k = rw none

-- a table of a header and a footer alone is lent, and has no station: every line that comes to L9 is refused by it
pub bare_table : (tst line : List ℕ) → length tst ≡ 192 → (is_lent tst ≡ true) × (is_known_station tst line ≡ false)
unfolding is_lent is_known_station member_of some_below
bare_table tst line e = (rw e, rw e)
