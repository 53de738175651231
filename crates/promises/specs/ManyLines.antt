-- n = 9,999 is judged; 10,000 gives 05: shown on DEB files of n equal lines, for every n. Assumes nothing.
use Rattle.std.specs.Prelude.{◌≡◌, ℕ, zero, suc, ◌*◌, ◌≤◌, ◌<◌, length, eqb, Ok, Err, Some}
use Rattle.std.proofs.Math.Path.{refl, sym, ap}
use Rattle.std.proofs.Common.{◌∙◌, arith}
use Rattle.std.proofs.Math.Bool.{true, not}
use mathlib.Core.List.{List, [], ◌++◌}
use borrow.Author.Tests.{eq-eqb}
use Rattle.lines.specs.Below.{all_below, some_below, first_below, join_below, sum_below}
use Rattle.lines.specs.BelowLaws.{all_each}
use Rattle.lines.specs.BoolLaws.{or_true_right}
use Rattle.lines.specs.Class.{is_digit, is_of, byte_is, all_bytes, all_of}
use Rattle.lines.specs.FirstOf.{first_of, picked, past, none}
use Rattle.lines.specs.Number.{value_below, all_digits, number_of, digits_of}
use Rattle.lines.specs.Rows.{file_length, one_feed, header_of, line_of, footer_of, framed_lines}
use Rattle.lines.specs.Same.{differ_at, first_difference, same}
use Rattle.lines.specs.Tests.{eq_not}
use Rattle.moment.specs.Calendar.{is_leap, days_in}
use Rattle.moment.specs.Moment.{date_fault, time_fault, check_moment, is_moment}
use Rattle.passage.specs.Passage.{gross_amount}
use Rattle.tif.specs.Acceptance.{acceptance_of}
use Rattle.tif.specs.Body.{gross_of, line_sound, line_sound_at, body_sound, amount_at, body_total}
use Rattle.tif.specs.Columns.{tif_layout}
use Rattle.tif.specs.Every.{every, Tested, tested, holds}
use Rattle.tif.specs.Footer.{footer_sound, total_of}
use Rattle.tif.specs.Header.{names_file, header_formed, header_sound, records_of, transactions_of, counts_agree}
use Rattle.tif.specs.Received.{is_received}
use Rattle.tif.specs.Side.{side_of}
use Rattle.tif.specs.Worked.{ten_thousand}
use Rattle.tif.specs.declared.acceptance.FileFault.{FileFault}
use Rattle.tif.specs.declared.side.Side.TheVariants.{Debit}
use Rattle.tic.specs.DigitLaws.{digits_all, number_digits}
use Rattle.tic.specs.FileLaws.{joined_length, joined_header, joined_line, joined_footer, joined_framed}
use Rattle.tic_text.specs.Pieces.{joined}
use Rattle.tic.specs.Sound.{not_feed}
use Rattle.tic_text.specs.Text.{zeros, blanks}
use Rattle.promises.specs.WorkedCall.{worked_name, line_with, header_with, footer_with, first_passing}
use Rattle.promises.specs.WorkedLaws.{line_feed, header_feed, footer_feed, header_long, footer_long, file_by}

-- every line is the worked file's first, of 5000
unfoldable pub equal_line : ℕ → List ℕ
equal_line k = line_with first_passing

-- the TIF of n such lines
unfoldable pub equal_lines : ℕ → List ℕ
equal_lines n = header_with 1 Debit n ++ join_below n equal_line ++ footer_with (n * 5000)

-- ---- one line
equal_long : (k : ℕ) → length (equal_line k) ≡ 810
unfolding equal_line line_with joined zeros digits_of
equal_long k = refl

equal_feed : (k : ℕ) → one_feed (equal_line k) ≡ true
unfolding equal_line all_bytes all_below byte_is not_feed digits_of
equal_feed k = line_feed first_passing refl refl

equal_sound : (k : ℕ) → line_sound (equal_line k) ≡ true
unfolding equal_line line_with joined zeros digits_of line_sound every all_digits all_of all_bytes all_below byte_is is_of is_digit
equal_sound k = refl

equal_amount : (k : ℕ) → number_of (gross_amount (equal_line k)) ≡ 5000
unfolding equal_line line_with joined zeros digits_of number_of value_below
equal_amount k = refl

-- ---- the header, with n written in it twice, and the footer
header_tests : (n : ℕ) → header_sound worked_name (header_with 1 Debit n) ≡ true
unfolding header_sound every names_file header_formed same first_difference differ_at first_below some_below side_of first_of is_moment check_moment date_fault time_fault days_in is_leap number_of value_below all_of all_bytes all_below byte_is is_of is_digit all_digits header_with joined zeros blanks digits_of
header_tests n = sym (tested (holds refl (holds refl (holds (digits_all 15 n) (holds (digits_all 15 n) Tested.done)))))

header_counts : (n : ℕ) → n ≤ 10000 → (records_of (header_with 1 Debit n) ≡ n) × (transactions_of (header_with 1 Debit n) ≡ n)
unfolding header_with joined zeros blanks digits_of
header_counts n few = (number_digits 15 n (omega arith), number_digits 15 n (omega arith))

footer_tests : (total : ℕ) → footer_sound (footer_with total) ≡ true
unfolding footer_sound every footer_with joined zeros digits_of all_of all_bytes all_below byte_is is_of
footer_tests total = sym (tested (holds refl (holds refl (holds (digits_all 15 total) Tested.done))))

footer_states : (total : ℕ) → total < 1000000000000000 → total_of (footer_with total) ≡ total
unfolding footer_with joined zeros digits_of
footer_states total small = number_digits 15 total small

sum_equal : (f : ℕ → ℕ) (n : ℕ) → ((k : ℕ) → k < n → f k ≡ 5000) → sum_below n f ≡ n * 5000
unfolding sum_below
sum_equal f zero each = refl
sum_equal f (suc n) each = omega (arith, sum_equal f n (λ k h. each k (omega arith)), each n (omega arith))

-- ---- the file
module _ (n : ℕ) where
  pub equal_length : length (equal_lines n) ≡ file_length tif_layout n
  unfolding equal_lines
  equal_length = joined_length tif_layout (header_with 1 Debit n) equal_line (footer_with (n * 5000)) n (header_long 1 Debit n) (λ k h. equal_long k) (footer_long (n * 5000))

  header_is : header_of tif_layout (equal_lines n) ≡ header_with 1 Debit n
  unfolding equal_lines
  header_is = joined_header tif_layout (header_with 1 Debit n) equal_line (footer_with (n * 5000)) n (header_long 1 Debit n) (λ k h. equal_long k) (footer_long (n * 5000))

  line_is : (k : ℕ) → k < n → line_of tif_layout (equal_lines n) k ≡ equal_line k
  unfolding equal_lines
  line_is = joined_line tif_layout (header_with 1 Debit n) equal_line (footer_with (n * 5000)) n (header_long 1 Debit n) (λ k h. equal_long k) (footer_long (n * 5000))

  footer_is : footer_of tif_layout (equal_lines n) n ≡ footer_with (n * 5000)
  unfolding equal_lines
  footer_is = joined_footer tif_layout (header_with 1 Debit n) equal_line (footer_with (n * 5000)) n (header_long 1 Debit n) (λ k h. equal_long k) (footer_long (n * 5000))

  body_sound_lem : body_sound (equal_lines n) n ≡ true
  unfolding body_sound line_sound_at
  body_sound_lem = all_each (line_sound_at (equal_lines n)) n (λ k h. ap line_sound (line_is k h) ∙ equal_sound k)

  body_total_lem : body_total (equal_lines n) n ≡ n * 5000
  unfolding body_total amount_at
  body_total_lem = sum_equal (amount_at (equal_lines n)) n (λ k h. ap (λ (line : List ℕ). number_of (gross_amount line)) (line_is k h) ∙ equal_amount k)

  module _ (few : n ≤ 9999) where
    framed : framed_lines tif_layout (equal_lines n) ≡ Some n
    unfolding equal_lines
    framed =
        joined_framed tif_layout (header_with 1 Debit n) equal_line (footer_with (n * 5000)) n (header_long 1 Debit n) (λ k h. equal_long k) (footer_long (n * 5000))
        few (omega arith) (header_feed 1 Debit n) (λ k h. equal_feed k) (footer_feed (n * 5000))

    counts : counts_agree (records_of (header_of tif_layout (equal_lines n))) (transactions_of (header_of tif_layout (equal_lines n))) n ≡ true
    unfolding counts_agree
    counts =
        let c = header_counts n (omega arith) in
        rw (header_is, c.0, c.1, eq-eqb n n refl) (or_true_right (eqb n 0) true refl)

    total_states : total_of (footer_of tif_layout (equal_lines n) n) ≡ body_total (equal_lines n) n
    total_states = ap total_of footer_is ∙ footer_states (n * 5000) (omega arith) ∙ sym body_total_lem

    -- up to 9,999 lines the file is judged, with its n lines and their sum
    pub many_judged : acceptance_of worked_name [] (equal_lines n) ≡ Ok (record { lines = n; total = gross_of (n * 5000) })
    unfolding is_received some_below
    many_judged =
        file_by worked_name [] (equal_lines n) (Some n) framed
        ∙ sym (picked (past refl (past refl (past (ap not (ap (header_sound worked_name) header_is ∙ header_tests n)) (past (ap not body_sound_lem)
        (past (ap not (ap footer_sound footer_is ∙ footer_tests (n * 5000))) (past (ap not counts) (past (eq_not _ _ total_states) none))))))))
        ∙ ap (λ (total : ℕ). Ok (record { lines = n; total = gross_of total })) body_total_lem

-- ---- 01's two figures
pub most_judged : acceptance_of worked_name [] (equal_lines 9999) ≡ Ok (record { lines = 9999; total = gross_of 49995000 })
most_judged = many_judged 9999 (omega arith)

pub too_many : acceptance_of worked_name [] (equal_lines 10000) ≡ Err FileFault.OutOfForm
unfolding is_received some_below
too_many = ten_thousand worked_name [] (equal_lines 10000) refl (equal_length 10000)
