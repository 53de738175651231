-- The worked lines that 01 marks, in a single table, computed: on the left what the definition says, on the right 01's own answer.
-- Assumes nothing.
use Rattle.std.specs.Prelude.{◌≡◌, refl, Bool, true, false, List, [], ◌∷◌, ℕ, replicate, Option, Some, None}
use Rattle.lines.specs.Below.{all_below, some_below, first_below, sum_below}
use Rattle.lines.specs.Class.{is_digit, is_capital, is_of, byte_is, all_bytes, all_of}
use Rattle.lines.specs.FirstOf.{first_of}
use Rattle.lines.specs.Number.{value_below, all_digits, number_of, big_endian, digits_of}
use Rattle.lines.specs.Rows.{line_of}
use Rattle.lines.specs.Same.{differ_at, first_difference, same, before}
use Rattle.lines.specs.Spans.{span_agrees, agree_across, agree_on}
use Rattle.moment.specs.Calendar.{is_leap, days_in}
use Rattle.moment.specs.Moment.{date_fault, time_fault, check_date, check_moment, is_date, is_moment}
use Rattle.plate.specs.Set.{is_small, is_marked_letter, is_plate_byte}
use Rattle.tif.specs.Every.{every}
use Rattle.tif.specs.Name.{is_actor, is_sequence, is_file_stem, is_name}
use Rattle.tif.specs.Worked.{name_of}
use Rattle.book.specs.Layout.{width, agreements, pan_of, body_head, periods_at, period_of, body_place}
use Rattle.cover.specs.Cover.{in_time, leased_to, period_covers, covers_at, covering_period, has_cover, pan_is, agreement_of, covering_agreement, cover_in, cover_of}
use Rattle.cover.specs.Worked.{book, pan, plate, nation}
use Rattle.cover.specs.declared.cover.Place.{Place}
use Rattle.debits.specs.Taking.{agrees, unmarked, free_for, place_taken, taken}
use Rattle.debits.specs.Counting.{one_if, count_below}
use Rattle.debits.specs.Credits.{marks_after, taken_at, credit_accepted, credit_refused}
use Rattle.debits.specs.Worked.{debit, credit, outcome}
use Rattle.tic_text.specs.Pieces.{joined}
use Rattle.tic_text.specs.Text.{zeros, blanks, header_text}
use Rattle.tic_text.specs.Worked.{worked_receiver, worked_stem, worked_moment, worked_head, worked_header}

-- an answer: yes or no, what covers a passage, how many of some credits are accepted and how many are L8, or a text
pub data Answer : Type 0 where
  Says : Bool → Answer
  Covers : Option Place → Answer
  AcceptedAndL8 : List ℕ → Answer
  Reads : List ℕ → Answer

infix 20 ◌gives◌
-- one worked line: what the definition says, and what 01 says
pub data Line : Type 0 where
  ◌gives◌ : Answer → Answer → Line

abbrev pub defined : List Line → List Answer
defined [] = []
defined ((definition gives paper) ∷ lines) = definition ∷ defined lines

abbrev pub papers : List Line → List Answer
papers [] = []
papers ((definition gives paper) ∷ lines) = paper ∷ papers lines

abbrev yes : Answer
yes = Says true

abbrev no : Answer
no = Says false

-- whether a moment, as fourteen digits, is real
abbrev real : ℕ → Answer
real moment = Says (is_moment (digits_of 14 moment))

-- whether `TIF10012320260615`, four digits of a sequence, `_20000_b_130001` has the form of a name; where it has not, the answer is E1
abbrev passes_name : ℕ → Answer
passes_name sequence = Says (is_name (name_of (digits_of 4 sequence)))

-- what covers, at a moment, a passage with the PAN of an agreement whose one period is from 20260101000000 to 20260301000000
abbrev by_pan : ℕ → Answer
by_pan moment = Covers (cover_of width book pan (digits_of 14 moment) plate nation)

-- the same with a blank PAN, by the plate of the period
abbrev by_plate : ℕ → Answer
by_plate moment = Covers (cover_of width book (replicate 19 32) (digits_of 14 moment) plate nation)

-- the first period of the first agreement
abbrev covered : Answer
covered = Covers (Some (record { agreement = 1; period = 1 }))

abbrev not_covered : Answer
not_covered = Covers None

-- whether a byte is in the plate set: C4 is 196, C5 is 197
abbrev in_plate_set : ℕ → Answer
in_plate_set byte = Says (is_plate_byte byte)

-- three equal credits on two debits that agree with them, each marked (1) or free (0)
abbrev three_credits : ℕ → ℕ → Answer
three_credits first second = AcceptedAndL8 (outcome (first ∷ second ∷ []))

abbrev accepted_and_l8 : ℕ → ℕ → Answer
accepted_and_l8 accepted refused = AcceptedAndL8 (accepted ∷ refused ∷ [])

-- the header of the worked TIC, and its pieces as 01 has them, joined
abbrev tic_header : Answer
tic_header = Reads (header_text worked_receiver worked_stem worked_moment worked_head)

abbrev pieces_joined : Answer
pieces_joined = Reads worked_header

-- the table; a sequence is written in four digits, so 0 is 0000
abbrev pub worked_lines : List Line
worked_lines =
    (real 20240229000000 gives yes)
    ∷ (real 20230229000000 gives no)
    ∷ (real 21000229000000 gives no)
    ∷ (real 20260615240000 gives no)
    ∷ (passes_name 0 gives no)
    ∷ (passes_name 1 gives yes)
    ∷ (passes_name 9999 gives yes)
    ∷ (by_pan 20260228235959 gives covered)
    ∷ (by_pan 20260301000000 gives not_covered)
    ∷ (by_plate 20260228235959 gives covered)
    ∷ (by_plate 20260301000000 gives not_covered)
    ∷ (in_plate_set 196 gives yes)
    ∷ (in_plate_set 197 gives no)
    ∷ (three_credits 0 0 gives accepted_and_l8 2 1)
    ∷ (three_credits 1 0 gives accepted_and_l8 1 2)
    ∷ (three_credits 0 1 gives accepted_and_l8 1 2)
    ∷ (tic_header gives pieces_joined)
    ∷ []

pub worked_lines_lem : defined worked_lines ≡ papers worked_lines
unfolding all_below some_below first_below sum_below is_digit is_capital is_of byte_is all_bytes all_of first_of value_below all_digits number_of big_endian digits_of line_of differ_at first_difference same before span_agrees agree_across agree_on is_leap days_in date_fault time_fault check_date check_moment is_date is_moment is_small is_marked_letter is_plate_byte every is_actor is_sequence is_file_stem is_name agreements pan_of body_head periods_at period_of body_place in_time leased_to period_covers covers_at covering_period has_cover pan_is agreement_of covering_agreement cover_in cover_of agrees unmarked free_for place_taken taken one_if count_below marks_after taken_at credit_accepted credit_refused debit credit outcome joined zeros blanks header_text
worked_lines_lem = refl
