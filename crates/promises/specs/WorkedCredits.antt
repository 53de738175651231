-- Three CRE files on two equal debits, computed: each file has one credit that agrees with both. Assumes nothing.
use Rattle.std.specs.Prelude.{◌≡◌, refl, List, [], ◌∷◌, ◌++◌, ℕ, replicate, Ok, Some}
use Rattle.std.proofs.Common.{◌∙◌, arith}
use Rattle.lines.specs.Below.{all_below, some_below, first_below, table_below, join_below, sum_below}
use Rattle.lines.specs.Class.{is_digit, is_capital, is_of, byte_is, all_bytes, all_of, place_of, padded_with}
use Rattle.lines.specs.FirstOf.{first_of}
use Rattle.lines.specs.Number.{value_below, all_digits, number_of, big_endian, digits_of}
use Rattle.lines.specs.Rows.{header_of, line_of, footer_of, count_fits}
use Rattle.lines.specs.Same.{differ_at, first_difference, same}
use Rattle.lines.specs.Spans.{span_agrees, agree_across, agree_on}
use Rattle.moment.specs.Calendar.{is_leap, days_in}
use Rattle.moment.specs.Moment.{date_fault, time_fault, check_date, check_moment, is_date, is_moment}
use Rattle.plate.specs.Plate.{padded_plate, is_filled, two_of, nation_class, plate_on_line}
use Rattle.plate.specs.Set.{is_small, is_marked_letter, is_plate_byte}
use Rattle.tif.specs.Acceptance.{Acceptance}
use Rattle.tif.specs.Body.{gross_of, line_sound, line_sound_at, body_sound, amount_at, body_total}
use Rattle.tif.specs.Every.{every}
use Rattle.tif.specs.Footer.{footer_sound}
use Rattle.tif.specs.Header.{names_file, header_formed, header_sound, counts_agree}
use Rattle.tif.specs.Name.{is_actor, is_sequence, is_file_stem, is_name}
use Rattle.tif.specs.Received.{names_whole, is_received}
use Rattle.tif.specs.Side.{side_of}
use Rattle.tif.specs.Worked.{name_of}
use Rattle.tif.specs.declared.acceptance.Whole.{Whole}
use Rattle.tif.specs.declared.side.Side.TheVariants.{Credit}
use Rattle.book.specs.Layout.{agreements, body_place}
use Rattle.book.specs.Form.{entries_sound, bodies_sound, head_sound, book_sound}
use Rattle.cover.specs.Cover.{covering_agreement, agreement_of, cover_in, cover_of}
use Rattle.debits.specs.Form.{is_debit_type, debit_sound, debit_sound_at, lines_sound, mark_sound_at, marks_sound, debits_sound}
use Rattle.debits.specs.Taking.{agrees, unmarked, free_for, place_taken, taken}
use Rattle.debits.specs.Credits.{marks_after}
use Rattle.verdicts.specs.LineTests.{is_lawful_type, fields_in_form, is_from_sender, is_known_fuel, is_known_vehicle, plates_in_form, test_line}
use Rattle.verdicts.specs.Tables.{is_listed, codes_of, tariff_classes, emissions, fuels}
use Rattle.verdicts.specs.Verdict.{word_of}
use Rattle.verdicts.specs.declared.verdict.Verdict.TheVariants.{Credits, NoDebit}
use Rattle.judging.specs.Judging.{repeated_at, cover_on, verdict_on, reaches_at, verdict_at, word_at, words_of}
use Rattle.judging.specs.Sums.{is_accepted, is_counted, one_at, amount_of, count_of, total_of}
use Rattle.tic_text.specs.Pieces.{joined}
use Rattle.tic.specs.Sound.{not_feed}
use Rattle.tic_text.specs.Text.{zeros, blanks}
use Rattle.answers.specs.Told.{judged_answer}
use Rattle.judge.specs.Call.{Call, check_of, file_of, judging_of, answer_of, marks_of}
use Rattle.tst.specs.Form.{is_lent, table_sound}
use Rattle.tst.specs.Stations.{is_known_station}
use Rattle.answers.specs.Card.{is_card}
use Rattle.answers.specs.Fault.{check_lent, check_call}
use Rattle.answers.specs.declared.answer.FileAnswer.TheVariants.{Accepted, PartlyAccepted}
use Rattle.answers.specs.declared.answer.Summary.{Summary}
use Rattle.promises.specs.WorkedCall.{Passing, line_with, header_with, footer_with, row_of, tif_with, known_pan, first_passing, worked_card}
use Rattle.promises.specs.WorkedLaws.{line_feed, WholeRows, tif_framed, acceptance_with, file_by, answer_is, marks_are}

-- ---- the calls
-- the worked file's first passage, credited
abbrev pub credit_passing : Passing
credit_passing = record { type = 82 ∷ 50 ∷ []; pan = known_pan; moment = 20260614081530; fee = 4000; amount = 5000 }

abbrev credit_rows : List (List ℕ)
credit_rows = line_with credit_passing ∷ []

-- a CRE file with that one line; open are two debits, both the worked file's first passage; the sequence of the day, and the marks, are the caller's
abbrev pub credit_call : ℕ → List ℕ → Call
credit_call sequence marks = record {
  name = name_of (digits_of 4 sequence);
  received = digits_of 14 20260616020000;
  card = worked_card;
  names = [];
  book = 0 ∷ 0 ∷ [];
  debits = line_with first_passing ++ line_with first_passing;
  marks = marks;
  tif = tif_with sequence Credit credit_rows 5000;
  tst = [];
  room = 1;
  out = replicate 1136 0;
}

-- three files one after the other, each with the marks that the one before it leaves
abbrev pub first_call : Call
first_call = credit_call 1 (0 ∷ 0 ∷ [])

abbrev pub second_call : Call
second_call = credit_call 2 (1 ∷ 0 ∷ [])

abbrev pub third_call : Call
third_call = credit_call 3 (1 ∷ 1 ∷ [])

-- ---- what is told of them: 00 CRE 1 1 0 5000 5000 0, and 01 CRE 1 0 1 5000 0 5000
abbrev pub credit_accepted : Summary
credit_accepted = record {
  answer = Accepted;
  side = Credit;
  lines = 1;
  accepted = 1;
  refused = 0;
  total = gross_of 5000;
  accepted_amount = gross_of 5000;
  refused_amount = gross_of 0;
  length = 324;
}

abbrev pub credit_refused : Summary
credit_refused = record {
  answer = PartlyAccepted;
  side = Credit;
  lines = 1;
  accepted = 0;
  refused = 1;
  total = gross_of 5000;
  accepted_amount = gross_of 0;
  refused_amount = gross_of 5000;
  length = 1136;
}

-- ---- step by step
-- no call number
sound : (check_of first_call ≡ Ok tt) × (check_of second_call ≡ Ok tt) × (check_of third_call ≡ Ok tt)
unfolding check_call check_lent is_lent table_sound first_of is_name is_file_stem every is_actor is_sequence all_digits number_of value_below big_endian all_of all_bytes all_below byte_is is_of is_digit is_capital same first_difference differ_at first_below some_below is_date check_date date_fault days_in is_leap is_moment check_moment time_fault is_card names_whole book_sound head_sound entries_sound bodies_sound agreements body_place debits_sound count_fits lines_sound debit_sound_at debit_sound is_debit_type marks_sound mark_sound_at line_of line_with joined zeros blanks digits_of
sound = (refl, refl, refl)

-- the line is whole
whole : WholeRows credit_rows
unfolding line_with joined zeros blanks digits_of all_bytes all_below byte_is not_feed
whole = WholeRows.cons refl (line_feed credit_passing refl refl) WholeRows.nil

abbrev one_line : Whole
one_line = record { lines = 1; total = gross_of 5000 }

-- neither 02 nor 05, 03, 04
abbrev after_frame : ℕ → Acceptance
after_frame sequence = acceptance_with (Some 1) (name_of (digits_of 4 sequence)) [] (tif_with sequence Credit credit_rows 5000)

counted : (after_frame 1 ≡ Ok one_line) × (after_frame 2 ≡ Ok one_line) × (after_frame 3 ≡ Ok one_line)
unfolding first_of is_received some_below header_sound names_file header_formed every same first_difference differ_at first_below side_of is_moment check_moment date_fault time_fault days_in is_leap all_of all_bytes all_below byte_is is_of is_digit all_digits number_of value_below body_sound line_sound_at line_sound footer_sound counts_agree body_total sum_below amount_at header_of line_of footer_of tif_with header_with footer_with row_of line_with join_below joined zeros blanks digits_of
counted = (refl, refl, refl)

judged : (sequence : ℕ) (marks : List ℕ) → after_frame sequence ≡ Ok one_line → file_of (credit_call sequence marks) ≡ Ok one_line
judged sequence marks e = file_by (name_of (digits_of 4 sequence)) [] (tif_with sequence Credit credit_rows 5000) (Some 1) (tif_framed sequence Credit credit_rows 5000 whole (omega arith)) ∙ e

-- the first file takes the first debit, the second the second; the third finds none
verdicts :
    (words_of (judging_of first_call) (0 ∷ 0 ∷ []) 1 ≡ word_of (Credits 1) ∷ [])
    × (words_of (judging_of second_call) (1 ∷ 0 ∷ []) 1 ≡ word_of (Credits 2) ∷ [])
    × (words_of (judging_of third_call) (1 ∷ 1 ∷ []) 1 ≡ word_of NoDebit ∷ [])
unfolding words_of table_below word_at verdict_at verdict_on is_lent is_known_station first_of is_lawful_type is_listed fields_in_form is_from_sender is_known_fuel is_known_vehicle plates_in_form plate_on_line nation_class codes_of tariff_classes emissions fuels repeated_at agree_on agree_across span_agrees cover_on cover_of cover_in covering_agreement agreement_of agreements taken place_taken free_for unmarked agrees marks_after reaches_at test_line every same first_difference differ_at some_below first_below all_below is_moment check_moment date_fault time_fault days_in is_leap all_digits number_of value_below big_endian all_of all_bytes byte_is is_of is_digit is_capital padded_with place_of padded_plate is_filled two_of is_small is_marked_letter is_plate_byte side_of line_of tif_with header_with footer_with row_of line_with join_below joined zeros blanks digits_of
verdicts = (refl, refl, refl)

-- ---- the answers: two acceptances with the same figures, then one refusal
pub credit_answers : (answer_of first_call ≡ Ok credit_accepted) × (answer_of second_call ≡ Ok credit_accepted) × (answer_of third_call ≡ Ok credit_refused)
unfolding judged_answer count_of total_of amount_of one_at is_counted is_accepted sum_below amount_at number_of value_below side_of first_of same first_difference differ_at first_below some_below line_of tif_with header_with footer_with row_of line_with join_below joined zeros blanks digits_of
credit_answers = (
  answer_is first_call one_line (word_of (Credits 1) ∷ []) sound.0 (judged 1 (0 ∷ 0 ∷ []) counted.0) verdicts.0 ∙ refl,
  answer_is second_call one_line (word_of (Credits 2) ∷ []) sound.1 (judged 2 (1 ∷ 0 ∷ []) counted.1) verdicts.1 ∙ refl,
  answer_is third_call one_line (word_of NoDebit ∷ []) sound.2 (judged 3 (1 ∷ 1 ∷ []) counted.2) verdicts.2 ∙ refl,
)

-- ---- the marks: each file that takes a debit marks that one
pub credit_marks : (marks_of first_call ≡ 1 ∷ 0 ∷ []) × (marks_of second_call ≡ 1 ∷ 1 ∷ []) × (marks_of third_call ≡ 1 ∷ 1 ∷ [])
unfolding marks_after taken place_taken free_for unmarked agrees agree_on agree_across span_agrees reaches_at is_lent is_known_station test_line first_of is_lawful_type is_listed fields_in_form is_from_sender is_known_fuel is_known_vehicle plates_in_form plate_on_line nation_class codes_of tariff_classes emissions fuels every same first_difference differ_at some_below first_below all_below is_moment check_moment date_fault time_fault days_in is_leap all_digits number_of value_below all_of all_bytes byte_is is_of is_digit is_capital padded_with place_of padded_plate is_filled two_of is_small is_marked_letter is_plate_byte side_of line_of tif_with header_with footer_with row_of line_with join_below joined zeros blanks digits_of
credit_marks = (
  marks_are first_call one_line (word_of (Credits 1) ∷ []) sound.0 (judged 1 (0 ∷ 0 ∷ []) counted.0) verdicts.0 credit_accepted credit_answers.0 ∙ refl,
  marks_are second_call one_line (word_of (Credits 2) ∷ []) sound.1 (judged 2 (1 ∷ 0 ∷ []) counted.1) verdicts.1 credit_accepted credit_answers.1 ∙ refl,
  marks_are third_call one_line (word_of NoDebit ∷ []) sound.2 (judged 3 (1 ∷ 1 ∷ []) counted.2) verdicts.2 credit_refused credit_answers.2 ∙ refl,
)
