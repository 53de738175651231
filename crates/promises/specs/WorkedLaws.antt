-- Calls that are worked through by computing: their TIFs are files of whole lines, and the steps of a call, each by its own value. Assumes nothing.
use Rattle.std.specs.Prelude.{◌≡◌, refl, true, not, List, [], ◌∷◌, ◌++◌, ℕ, zero, suc, ◌-◌, ◌≤◌, ◌<◌, length, drop, Ok, Err, Option, Some}
use Rattle.std.proofs.Math.Path.{ap}
use Rattle.std.proofs.Common.{◌∙◌, not-suc-le-zero, le_of_suc-le-suc, arith}
use Rattle.lines.specs.Below.{all_below}
use Rattle.lines.specs.Class.{byte_is, all_bytes}
use Rattle.lines.specs.FirstOf.{◌⇒◌, first_of}
use Rattle.lines.specs.Number.{digits_of}
use Rattle.lines.specs.Rows.{most_lines, one_feed, framed_lines}
use Rattle.lines.specs.Splice.{splice}
use Rattle.tif.specs.Acceptance.{Acceptance, is_framed, framed_count, acceptance_rows, whole_of, acceptance_of}
use Rattle.tif.specs.Columns.{tif_layout}
use Rattle.tif.specs.Received.{is_received}
use Rattle.tif.specs.declared.acceptance.FileFault.{FileFault}
use Rattle.tif.specs.declared.acceptance.Whole.{Whole}
use Rattle.tif.specs.declared.side.Side.{Side}
use Rattle.tif.specs.declared.side.Side.TheVariants.{Credit, Debit, Neither}
use Rattle.judging.specs.Judging.{marks_before, words_of}
use Rattle.verdicts.specs.declared.record.Record.{Record}
use Rattle.tic.specs.FileLaws.{joined_framed}
use Rattle.tic.specs.FreeLaws.{FeedFree, with_piece, joined_feed, zeros_free, blanks_free, number_free, side_free}
use Rattle.tic_text.specs.Pieces.{joined}
use Rattle.tic.specs.Sound.{not_feed}
use Rattle.tic_text.specs.Text.{zeros, blanks, tic_text}
use Rattle.answers.specs.Told.{summary_for, head_of, sums_of}
use Rattle.judge.specs.Call.{Call, check_of, file_of, judging_of, words_judged, marks_judged, summary_of, tic_of_call, answer_sound, answer_of, marks_of, out_of, records_of}
use Rattle.answers.specs.Listing.{tic_of}
use Rattle.judge.specs.Records.{records_to}
use Rattle.answers.specs.declared.answer.Summary.{Summary}
use Rattle.promises.specs.WorkedCall.{Passing, line_pieces, line_with, header_pieces, header_with, footer_pieces, footer_with, row_of, tif_with}

-- ---- line feeds
-- a line whose type and PAN have none ends in its only one
pub line_feed : (p : Passing) → all_bytes not_feed p.type ≡ true → all_bytes not_feed p.pan ≡ true → one_feed (line_with p) ≡ true
unfolding line_with all_bytes byte_is all_below not_feed digits_of
line_feed p e f =
    joined_feed (line_pieces p)
    (with_piece refl (with_piece e (with_piece f (with_piece (zeros_free 38) (with_piece (number_free 14 p.moment) (with_piece (zeros_free 2)
    (with_piece refl (with_piece (zeros_free 1) (with_piece refl (with_piece refl
    (with_piece (zeros_free 23) (with_piece (number_free 11 p.fee) (with_piece (number_free 11 (p.amount - p.fee)) (with_piece (number_free 11 p.amount)
    (with_piece refl (with_piece (zeros_free 77) (with_piece refl
    (with_piece refl (with_piece refl (with_piece (zeros_free 29) (with_piece refl (with_piece refl (with_piece refl (with_piece (zeros_free 510) FeedFree.nil))))))))))))))))))))))))

pub header_feed : (sequence : ℕ) (side : Side) (n : ℕ) → one_feed (header_with sequence side n) ≡ true
unfolding header_with all_bytes byte_is all_below not_feed digits_of
header_feed sequence side n =
    joined_feed (header_pieces sequence side n)
    (with_piece refl (with_piece refl (with_piece refl (with_piece refl (with_piece refl (with_piece refl (with_piece (number_free 4 sequence)
    (with_piece refl (with_piece (zeros_free 12) (with_piece (blanks_free 6) (with_piece refl (with_piece (number_free 15 n) (with_piece (side_free side) (with_piece (number_free 15 n) (with_piece refl (with_piece refl (with_piece (zeros_free 50) FeedFree.nil)))))))))))))))))

pub footer_feed : (total : ℕ) → one_feed (footer_with total) ≡ true
unfolding footer_with all_bytes byte_is all_below not_feed
footer_feed total = joined_feed (footer_pieces total) (with_piece refl (with_piece (number_free 15 total) (with_piece (zeros_free 90) FeedFree.nil)))

-- ---- a TIF of whole lines
-- rows of a line's width, each ending in its only line feed
pub data WholeRows : List (List ℕ) → Type 0 where
  nil : WholeRows []
  cons : {row : List ℕ} {rows : List (List ℕ)} → length row ≡ 810 → one_feed row ≡ true → WholeRows rows → WholeRows (row ∷ rows)

row_whole : {rows : List (List ℕ)} → WholeRows rows → (k : ℕ) → k < length rows → (length (row_of rows k) ≡ 810) × (one_feed (row_of rows k) ≡ true)
unfolding row_of
row_whole nil k h = absurd (not-suc-le-zero h)
row_whole (cons l f w) zero h = (l, f)
row_whole (cons l f w) (suc k) h = row_whole w k (le_of_suc-le-suc h)

pub header_long : (sequence : ℕ) (side : Side) (n : ℕ) → length (header_with sequence side n) ≡ 162
unfolding header_with joined zeros blanks digits_of
header_long sequence Credit n = refl
header_long sequence Debit n = refl
header_long sequence Neither n = refl

pub footer_long : (total : ℕ) → length (footer_with total) ≡ 107
unfolding footer_with joined zeros digits_of
footer_long total = refl

pub tif_framed : (sequence : ℕ) (side : Side) (rows : List (List ℕ)) (total : ℕ) → WholeRows rows → length rows ≤ most_lines → framed_lines tif_layout (tif_with sequence side rows total) ≡ Some (length rows)
unfolding tif_with
tif_framed sequence side rows total w few =
    joined_framed tif_layout (header_with sequence side (length rows)) (row_of rows) (footer_with total) (length rows)
    (header_long sequence side (length rows)) (λ k h. (row_whole w k h).0) (footer_long total)
    few (omega arith) (header_feed sequence side (length rows)) (λ k h. (row_whole w k h).1) (footer_feed total)

-- ---- 02 to 05 of a file whose lines are counted
abbrev pub acceptance_with : Option ℕ → List ℕ → List ℕ → List ℕ → Acceptance
acceptance_with lines name names tif =
    first_of (
    (is_received names name ⇒ Err FileFault.AlreadyReceived)
    ∷ (not (is_framed lines) ⇒ Err FileFault.OutOfForm)
    ∷ drop 2 (acceptance_rows name names tif (framed_count lines))
    ) (Ok (whole_of tif (framed_count lines)))

pub file_by : (name names tif : List ℕ) (lines : Option ℕ) → framed_lines tif_layout tif ≡ lines → acceptance_of name names tif ≡ acceptance_with lines name names tif
unfolding acceptance_of
file_by name names tif lines e = ap (λ (l : Option ℕ). acceptance_with l name names tif) e

-- ---- the steps of a call that is sound, of a file that is judged, with these words
module _ (c : Call) (w : Whole) (words : List ℕ)
    (checked : check_of c ≡ Ok tt) (filed : file_of c ≡ Ok w) (worded : words_of (judging_of c) c.marks w.lines ≡ words) where
  words_are : words_judged c ≡ words
  unfolding words_judged
  words_are = rw filed worded

  abbrev pub told_of : Summary
  told_of = summary_for (Ok w) c.tif words

  told_is : summary_of c ≡ told_of
  unfolding summary_of
  told_is = ap (λ (x : Acceptance). summary_for x c.tif (words_judged c)) filed ∙ ap (summary_for (Ok w) c.tif) words_are

  pub answer_is : answer_of c ≡ answer_sound told_of c.room (length c.out)
  unfolding answer_of
  answer_is = rw checked (ap (λ (s : Summary). answer_sound s c.room (length c.out)) told_is)

  -- where there is room
  module _ (s : Summary) (answered : answer_of c ≡ Ok s) where
    pub marks_are : marks_of c ≡ marks_before (judging_of c) c.marks w.lines
    unfolding marks_of marks_judged
    marks_are = rw (answered, filed)

    pub out_is : out_of c ≡ splice c.out 0 (tic_text (tic_of c.name c.received c.card c.tif words (head_of told_of) (sums_of told_of)))
    unfolding out_of tic_of_call
    out_is = rw (answered, words_are, told_is)

    pub records_are : (records : List Record) → records_of c records ≡ records_to c.tif words s.lines ++ drop s.lines records
    unfolding records_of
    records_are records = rw (answered, words_are)
