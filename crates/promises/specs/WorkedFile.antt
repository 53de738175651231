-- 01's worked file, computed: acceptance 01, DEB, 3 lines, 2 accepted, 1 refused, 17850 in all, 5300 accepted, 12550 refused; and its TIC. Assumes nothing.
use Rattle.std.specs.Prelude.{◌≡◌, false, List, [], ◌∷◌, ◌++◌, ℕ, ◌≤◌, length, take, drop, ltb, Ok, Some}
use Rattle.std.proofs.Math.Path.{refl}
use Rattle.std.proofs.Common.{ap, ◌∙◌, arith}
use Rattle.lines.specs.Below.{all_below, some_below, first_below, table_below, join_below, sum_below}
use Rattle.lines.specs.Class.{is_digit, is_capital, is_of, byte_is, all_bytes, all_of, place_of, padded_with, filled_with}
use Rattle.lines.specs.Columns.{cols}
use Rattle.lines.specs.FirstOf.{first_of}
use Rattle.lines.specs.Number.{value_below, all_digits, number_of, value_of, big_endian, digits_of}
use Rattle.lines.specs.Rows.{header_of, line_of, footer_of, count_fits}
use Rattle.lines.specs.Same.{differ_at, first_difference, same, before}
use Rattle.lines.specs.Spans.{span_agrees, agree_across, agree_on}
use Rattle.lines.specs.Splice.{splice}
use Rattle.lines.specs.Tests.{tests}
use Rattle.moment.specs.Calendar.{is_leap, days_in}
use Rattle.moment.specs.Moment.{date_fault, time_fault, check_date, check_moment, is_date, is_moment}
use Rattle.plate.specs.Plate.{all_plate_bytes, padded_plate, is_filled, two_of, nation_class, plate_on_line, plate_in_book}
use Rattle.plate.specs.Set.{is_small, is_marked_letter, is_plate_byte}
use Rattle.tif.specs.Body.{gross_of, line_sound, line_sound_at, body_sound, amount_at, body_total}
use Rattle.tif.specs.Every.{every}
use Rattle.tif.specs.Footer.{footer_sound}
use Rattle.tif.specs.Header.{names_file, header_formed, header_sound, counts_agree}
use Rattle.tif.specs.Name.{is_actor, is_sequence, is_file_stem, is_name}
use Rattle.tif.specs.Received.{names_whole, is_received}
use Rattle.tif.specs.Side.{side_of}
use Rattle.tif.specs.declared.acceptance.Whole.{Whole}
use Rattle.tif.specs.declared.side.Side.TheVariants.{Debit}
use Rattle.book.specs.Layout.{agreements, pan_of, offset_of, body_head, periods_at, period_of, body_end, body_place}
use Rattle.book.specs.Form.{end_form, period_form, follows_at, period_sound_at, periods_sound, body_sound as lease_sound, rises_at, entry_sound_at, entries_sound, agreement_sound, agreement_sound_at, bodies_sound, head_sound, book_sound}
use Rattle.cover.specs.Cover.{in_time, leased_to, period_covers, covers_at, covering_period, has_cover, pan_is, agreement_of, covering_agreement, cover_in, cover_of}
use Rattle.debits.specs.Form.{lines_sound, marks_sound, debits_sound}
use Rattle.debits.specs.Taking.{place_taken, taken}
use Rattle.debits.specs.Credits.{marks_after}
use Rattle.verdicts.specs.LineTests.{is_lawful_type, fields_in_form, is_from_sender, is_known_fuel, is_known_vehicle, plates_in_form, test_line}
use Rattle.verdicts.specs.Tables.{is_listed, codes_of, tariff_classes, emissions, fuels}
use Rattle.verdicts.specs.Verdict.{word_of, acceptance_of, verdict_of}
use Rattle.verdicts.specs.declared.record.Record.{Record}
use Rattle.verdicts.specs.declared.verdict.Verdict.{Verdict}
use Rattle.verdicts.specs.declared.verdict.Verdict.TheVariants.{Covered, NotCovered}
use Rattle.judging.specs.Judging.{repeats_at, repeated_at, cover_on, verdict_on, reaches_at, verdict_at, word_at, words_of}
use Rattle.judging.specs.Sums.{is_accepted, is_counted, one_at, amount_of, count_of, total_of}
use Rattle.tic_text.specs.Pieces.{joined}
use Rattle.tic.specs.Sound.{not_feed}
use Rattle.tic_text.specs.Text.{zeros, blanks, header_text, listed_text, footer_text, listed_at, tic_text}
use Rattle.tic_text.specs.Worked.{worked_header}
use Rattle.answers.specs.Told.{judged_answer, summary_for, head_of, sums_of}
use Rattle.judge.specs.Call.{check_of, file_of, judging_of, answer_sound, answer_of, marks_of, out_of, records_of, Judged}
use Rattle.tst.specs.Form.{is_lent, table_sound}
use Rattle.tst.specs.Stations.{is_known_station}
use Rattle.answers.specs.Card.{is_card, code_of}
use Rattle.answers.specs.Fault.{check_lent, check_call}
use Rattle.answers.specs.Listing.{refused_before, is_refusal, refused_place, tic_of}
use Rattle.judge.specs.Records.{record_at, records_to}
use Rattle.answers.specs.Answer.{Answer}
use Rattle.answers.specs.declared.answer.FileAnswer.TheVariants.{PartlyAccepted}
use Rattle.answers.specs.declared.answer.Summary.{Summary}
use Rattle.job_line.specs.Line.{digit_count, decimal, after_blank, head_text, counts_text, amounts_text, summary_text, answer_text}
use Rattle.promises.specs.WorkedCall.{line_with, header_with, footer_with, row_of, tif_with, first_passing, second_passing, third_passing, worked_name, worked_card, worked_rows, worked_with, worked_call}
use Rattle.promises.specs.WorkedLaws.{line_feed, WholeRows, tif_framed, acceptance_with, file_by, answer_is, out_is, records_are, marks_are}

-- ---- what 01 says
-- 01 DEB 3 2 1 17850 5300 12550, and a TIC of 1,136 bytes
abbrev pub worked_summary : Summary
worked_summary = record {
  answer = PartlyAccepted;
  side = Debit;
  lines = 3;
  accepted = 2;
  refused = 1;
  total = gross_of 17850;
  accepted_amount = gross_of 5300;
  refused_amount = gross_of 12550;
  length = 1136;
}

-- the line that the program prints, `01 DEB 3 2 1 17850 5300 12550`, without its line feed
abbrev pub worked_line : List ℕ
worked_line = 48 ∷ 49 ∷ 32 ∷ 68 ∷ 69 ∷ 66 ∷ 32 ∷ 51 ∷ 32 ∷ 50 ∷ 32 ∷ 49 ∷ 32 ∷ 49 ∷ 55 ∷ 56 ∷ 53 ∷ 48 ∷ 32 ∷ 53 ∷ 51 ∷ 48 ∷ 48 ∷ 32 ∷ 49 ∷ 50 ∷ 53 ∷ 53 ∷ 48 ∷ []

-- the TIC: the header's pieces as 01 has them joined; the second line with its code, 07; "2", the accepted sum, the refused sum, zeros
abbrev pub worked_listed : List ℕ
worked_listed = cols 1 809 (line_with second_passing) ++ (48 ∷ 55 ∷ []) ++ (10 ∷ [])

abbrev pub worked_footer : List ℕ
worked_footer = (50 ∷ []) ++ digits_of 15 5300 ++ digits_of 15 12550 ++ zeros 96 ++ (10 ∷ [])

abbrev pub worked_tic : List ℕ
worked_tic = worked_header ++ worked_listed ++ worked_footer

-- the records: number, amount with VAT, verdict, fee without VAT. The second period of the agreement covers the first line by its PAN and the third
-- by its plate; the second line is L7
abbrev pub record_with : ℕ → ℕ → Verdict → ℕ → Record
record_with number amount verdict fee = record { number = number; gross = record { 0 = amount }; verdict = verdict; net = record { 0 = fee } }

abbrev pub covered : Verdict
covered = Covered (record { agreement = 1; period = 2 })

abbrev pub worked_records : List Record
worked_records = record_with 1 5000 covered 4000 ∷ record_with 2 12550 NotCovered 10040 ∷ record_with 3 300 covered 240 ∷ []

-- ---- the file, whatever is lent for the answer
abbrev worked_tif : List ℕ
worked_tif = tif_with 1 Debit worked_rows 17850

-- its lines are whole
whole : WholeRows worked_rows
unfolding line_with joined zeros blanks digits_of all_bytes all_below byte_is not_feed
whole = WholeRows.cons refl (line_feed first_passing refl refl) (WholeRows.cons refl (line_feed second_passing refl refl) (WholeRows.cons refl (line_feed third_passing refl refl) WholeRows.nil))

-- neither 02 nor 05, 03, 04
abbrev three_lines : Whole
three_lines = record { lines = 3; total = gross_of 17850 }

counted : acceptance_with (Some 3) worked_name [] worked_tif ≡ Ok three_lines
unfolding first_of is_received some_below header_sound names_file header_formed every same first_difference differ_at first_below side_of is_moment check_moment date_fault time_fault days_in is_leap all_of all_bytes all_below byte_is is_of is_digit all_digits number_of value_below body_sound line_sound_at line_sound footer_sound counts_agree body_total sum_below amount_at header_of line_of footer_of tif_with header_with footer_with row_of line_with join_below joined zeros blanks digits_of
counted = refl

abbrev worked_words : List ℕ
worked_words = word_of covered ∷ word_of NotCovered ∷ word_of covered ∷ []

told : summary_for (Ok three_lines) worked_tif worked_words ≡ worked_summary
unfolding judged_answer count_of total_of amount_of one_at is_counted is_accepted sum_below amount_at number_of value_below side_of first_of same first_difference differ_at first_below some_below line_of tif_with header_with footer_with row_of line_with join_below joined zeros blanks digits_of
told = refl

printed : answer_text (Ok worked_summary) ≡ worked_line
unfolding summary_text head_text counts_text amounts_text after_blank decimal digit_count digits_of
printed = refl

written : tic_text (tic_of worked_name worked_call.received worked_card worked_tif worked_words (head_of worked_summary) (sums_of worked_summary)) ≡ worked_tic
unfolding tic_text header_text listed_at listed_text footer_text refused_place is_refusal refused_before code_of one_at is_counted is_accepted sum_below first_below some_below line_of tif_with header_with footer_with row_of line_with join_below joined zeros blanks digits_of
written = refl

filled : records_to worked_tif worked_words 3 ≡ worked_records
unfolding records_to record_at verdict_of acceptance_of first_of value_of all_digits all_of all_bytes all_below byte_is is_of is_digit number_of value_below line_of tif_with header_with footer_with row_of line_with join_below joined zeros blanks digits_of
filled = refl

-- ---- the call, with three records or more and room for the TIC
module _ (room : ℕ) (out : List ℕ) where
  -- no call number
  sound : check_of (worked_with room out) ≡ Ok tt
  unfolding check_call check_lent is_lent table_sound first_of is_name is_file_stem every is_actor is_sequence all_digits number_of value_below all_of all_bytes all_below byte_is is_of is_digit is_capital same first_difference differ_at first_below some_below is_date check_date date_fault days_in is_leap is_moment check_moment time_fault is_card names_whole book_sound head_sound entries_sound entry_sound_at rises_at bodies_sound agreement_sound_at agreement_sound lease_sound periods_sound period_sound_at follows_at period_form end_form agreements pan_of offset_of body_head periods_at period_of body_end body_place place_of padded_with filled_with big_endian line_of before all_plate_bytes padded_plate is_filled two_of plate_in_book is_small is_marked_letter is_plate_byte debits_sound count_fits lines_sound marks_sound digits_of
  sound = refl

  judged : file_of (worked_with room out) ≡ Ok three_lines
  judged = file_by worked_name [] worked_tif (Some 3) (tif_framed 1 Debit worked_rows 17850 whole (omega arith)) ∙ counted

  verdicts : words_of (judging_of (worked_with room out)) [] 3 ≡ worked_words
  unfolding words_of table_below word_at verdict_at verdict_on is_lent is_known_station first_of is_lawful_type is_listed fields_in_form is_from_sender is_known_fuel is_known_vehicle plates_in_form plate_on_line nation_class codes_of tariff_classes emissions fuels repeated_at repeats_at agree_on agree_across span_agrees cover_on cover_of cover_in covering_agreement agreement_of pan_is has_cover covering_period covers_at period_covers leased_to in_time taken place_taken marks_after reaches_at test_line every same first_difference differ_at before some_below first_below all_below is_moment check_moment date_fault time_fault days_in is_leap all_digits number_of value_below big_endian all_of all_bytes byte_is is_of is_digit is_capital padded_with place_of padded_plate is_filled two_of is_small is_marked_letter is_plate_byte agreements pan_of body_head periods_at period_of body_end body_place side_of line_of tif_with header_with footer_with row_of line_with join_below joined zeros blanks digits_of
  verdicts = refl

  module _ (enough : 3 ≤ room) (long : 1136 ≤ length out) where
    pub worked_answer : answer_of (worked_with room out) ≡ Ok worked_summary
    worked_answer =
        let a : ltb (length out) 1136 ≡ false = omega tests in
        let b : ltb room 3 ≡ false = omega tests in
        answer_is (worked_with room out) three_lines worked_words sound judged verdicts ∙ ap (λ (s : Summary). answer_sound s room (length out)) told ∙ rw (a, b)

    pub worked_out : out_of (worked_with room out) ≡ splice out 0 worked_tic
    worked_out =
        out_is (worked_with room out) three_lines worked_words sound judged verdicts worked_summary worked_answer
        ∙ ap (λ (s : Summary). splice out 0 (tic_text (tic_of worked_name worked_call.received worked_card worked_tif worked_words (head_of s) (sums_of s)))) told
        ∙ ap (splice out 0) written

    pub worked_records_lem : (records : List Record) → records_of (worked_with room out) records ≡ worked_records ++ drop 3 records
    worked_records_lem records =
        records_are (worked_with room out) three_lines worked_words sound judged verdicts worked_summary worked_answer records
        ∙ ap (λ (l : List Record). l ++ drop 3 records) filled

    worked_marks : marks_of (worked_with room out) ≡ []
    unfolding marks_after reaches_at side_of first_of same first_difference differ_at first_below some_below tif_with header_with footer_with row_of line_with join_below joined zeros blanks digits_of
    worked_marks = marks_are (worked_with room out) three_lines worked_words sound judged verdicts worked_summary worked_answer ∙ refl

-- ---- what the contract of the call says of the worked file: the answer, and how it is printed; the TIC in front of the output, its header the pieces of 01 joined; the records
pub record AsWorked (out : List ℕ) (records : List Record) (r : Answer) (marks' : List ℕ) (records' : List Record) (out' : List ℕ) : Type 0 where
  pub answer : r ≡ Ok worked_summary
  pub line : answer_text r ≡ worked_line
  pub header : take 196 out' ≡ worked_header
  pub tic : out' ≡ splice out 0 worked_tic
  pub told : records' ≡ worked_records ++ drop 3 records
  pub marked : marks' ≡ []

front : (out : List ℕ) → take 196 (splice out 0 worked_tic) ≡ worked_header
unfolding splice line_with joined zeros blanks digits_of
front out = refl

pub worked_file : (room : ℕ) (out : List ℕ) → 3 ≤ room → 1136 ≤ length out
    → (records : List Record) (r : Answer) (marks' : List ℕ) (records' : List Record) (out' : List ℕ)
    → Judged (worked_with room out) records r marks' records' out' → AsWorked out records r marks' records' out'
worked_file room out enough long records r marks' records' out' j =
    let tic = j.out_then ∙ worked_out room out enough long in
    let answer = j.answer ∙ worked_answer room out enough long in
    record {
      answer = answer;
      line = ap answer_text answer ∙ printed;
      header = ap (take 196) tic ∙ front out;
      tic = tic;
      told = j.records_then ∙ worked_records_lem room out enough long records;
      marked = j.marks_then ∙ worked_marks room out enough long;
    }
