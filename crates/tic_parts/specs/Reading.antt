-- Reading a TIC: T1 length or line feeds, T2 header form, T3 counts, T4 a listed line, T5 footer, in this order, or its values. Assumes nothing.
use Rattle.std.specs.Prelude.{Bool, false, not, ◌&&◌, ◌||◌, List, [], ◌∷◌, ℕ, ◌+◌, eqb, leb, ltb, Result, Ok, Err}
use Rattle.lines.specs.Below.{all_below, sum_below}
use Rattle.lines.specs.Class.{all_of}
use Rattle.lines.specs.Columns.{col}
use Rattle.lines.specs.FirstOf.{Row, ◌⇒◌, first_of}
use Rattle.lines.specs.Number.{all_digits, number_of}
use Rattle.lines.specs.Rows.{most_lines, header_of, line_of, footer_of, framed_lines}
use Rattle.lines.specs.Same.{same}
use Rattle.lines.specs.declared.class.Class.TheVariants.{DigitOrCapital, Only}
use Rattle.moment.specs.Moment.{is_moment}
use Rattle.passage.specs.Passage.{gross_amount}
use Rattle.tif.specs.Acceptance.{is_framed, framed_count}
use Rattle.tif.specs.Every.{every}
use Rattle.tif.specs.Header.{nok}
use Rattle.tif.specs.Name.{tif_kind, version, is_actor, is_file_stem}
use Rattle.tif.specs.Side.{side_text, side_in, is_sided}
use Rattle.tif.specs.declared.side.Side.TheVariants.{Credit, Debit, Neither}
use Rattle.tic_text.specs.Columns.{tic_layout, tif_receiver, tif_sender, own_kind, own_stem, received_kind, received_stem, received_sender, reception_moment, tic_currency, accepted_field, rejected_field, side_field, accepted_again, rejected_again, tic_version, tic_number, header_filler, acceptance_field, code_part, accepted_sum_field, rejected_sum_field, footer_filler}
use Rattle.tic_text.specs.Text.{tic_kind}
use Rattle.tic_text.specs.declared.values.TicHead.{TicHead}
use Rattle.tic_text.specs.declared.values.TicSums.{TicSums}
use Rattle.tic_text.specs.declared.values.TicValues.{TicValues}
use Rattle.tic_text.specs.declared.fault.TicFault.{TicFault}
use Rattle.tic_text.specs.declared.fault.TicFault.TheVariants.{Framing, Header, Counts, ListedLine, Footer}

-- ---- T2: the header's form
-- "0"; an actor; names of one TIF, which is real
abbrev pub naming_tests : List ℕ → List Bool
naming_tests h =
    eqb (col 1 h) 48
    ∷ is_actor (tif_receiver h)
    ∷ same (tif_sender h) (received_sender h)
    ∷ same (own_kind h) tic_kind
    ∷ same (own_stem h) (received_stem h)
    ∷ same (received_kind h) tif_kind
    ∷ is_file_stem (received_stem h)
    ∷ []

unfoldable pub names_one_tif : List ℕ → Bool
names_one_tif h = every (naming_tests h)

-- CRE, DEB or "000"
unfoldable pub is_side : List ℕ → Bool
is_side s = same s (side_text Credit) || (same s (side_text Debit) || same s (side_text Neither))

-- a real moment; NOK; a side; version 130001; blanks; zeros
abbrev pub form_tests : List ℕ → List Bool
form_tests h =
    is_moment (reception_moment h)
    ∷ same (tic_currency h) nok
    ∷ is_side (side_field h)
    ∷ same (tic_version h) version
    ∷ all_of (Only 32) (tic_number h)
    ∷ all_of (Only 48) (header_filler h)
    ∷ []

unfoldable pub header_formed : List ℕ → Bool
header_formed h = every (form_tests h)

-- counts and acceptance are digits
abbrev pub digit_tests : List ℕ → List Bool
digit_tests h =
    all_digits (accepted_field h)
    ∷ all_digits (rejected_field h)
    ∷ all_digits (accepted_again h)
    ∷ all_digits (rejected_again h)
    ∷ all_digits (acceptance_field h)
    ∷ []

unfoldable pub header_digits : List ℕ → Bool
header_digits h = every (digit_tests h)

abbrev pub header_tests : List ℕ → List Bool
header_tests h = names_one_tif h ∷ header_formed h ∷ header_digits h ∷ []

unfoldable pub header_sound : List ℕ → Bool
header_sound h = every (header_tests h)

-- ---- the header's numbers
abbrev pub head_of : List ℕ → TicHead
head_of h =
    record {
      acceptance = number_of (acceptance_field h);
      side = side_in (side_field h);
      accepted = record { 0 = number_of (accepted_field h) };
      rejected = record { 0 = number_of (rejected_field h) };
    }

-- ---- T3: counts that agree with each other, the lines and the acceptance
-- none above 05; 02 to 05 with all zero; 00 and 01 with CRE or DEB; 00 with no line, 01 with at least one
abbrev pub acceptance_rows : TicHead → List (Row Bool)
acceptance_rows h =
    (ltb 5 h.acceptance ⇒ false)
    ∷ (ltb 1 h.acceptance ⇒ (eqb h.accepted.0 0 && eqb h.rejected.0 0))
    ∷ (not (is_sided h.side) ⇒ false)
    ∷ (eqb h.acceptance 0 ⇒ eqb h.rejected.0 0)
    ∷ []

unfoldable pub acceptance_fits : TicHead → Bool
acceptance_fits h = first_of (acceptance_rows h) (ltb 0 h.rejected.0)

-- rejected are the lines listed; accepted and rejected are at most 9,999; the acceptance fits
abbrev pub agree_tests : TicHead → ℕ → List Bool
agree_tests h n =
    eqb h.rejected.0 n
    ∷ leb (h.accepted.0 + h.rejected.0) most_lines
    ∷ acceptance_fits h
    ∷ []

unfoldable pub head_agrees : TicHead → ℕ → Bool
head_agrees h n = every (agree_tests h n)

-- records and transactions are the same by value
abbrev pub count_tests : List ℕ → ℕ → List Bool
count_tests h n =
    eqb (number_of (accepted_again h)) (number_of (accepted_field h))
    ∷ eqb (number_of (rejected_again h)) (number_of (rejected_field h))
    ∷ head_agrees (head_of h) n
    ∷ []

unfoldable pub counts_agree : List ℕ → ℕ → Bool
counts_agree h n = every (count_tests h n)

-- ---- T4: "1" first, amount digits, a code of card characters
abbrev pub listed_tests : List ℕ → List Bool
listed_tests row =
    eqb (col 1 row) 49
    ∷ all_digits (gross_amount row)
    ∷ all_of DigitOrCapital (code_part row)
    ∷ []

unfoldable pub listed_formed : List ℕ → Bool
listed_formed row = every (listed_tests row)

-- listed line k, counted from 0
abbrev pub row_at : List ℕ → ℕ → List ℕ
row_at tic k = line_of tic_layout tic k

unfoldable pub listed_formed_at : List ℕ → ℕ → Bool
listed_formed_at tic k = listed_formed (row_at tic k)

unfoldable pub lines_formed : List ℕ → ℕ → Bool
lines_formed tic n = all_below n (listed_formed_at tic)

-- ---- T5: "2", sums of digits, zeros
abbrev pub footer_tests : List ℕ → List Bool
footer_tests f =
    eqb (col 1 f) 50
    ∷ all_digits (accepted_sum_field f)
    ∷ all_digits (rejected_sum_field f)
    ∷ all_of (Only 48) (footer_filler f)
    ∷ []

unfoldable pub footer_formed : List ℕ → Bool
footer_formed f = every (footer_tests f)

abbrev pub sums_of : List ℕ → TicSums
sums_of f = record { accepted = record { 0 = number_of (accepted_sum_field f) }; rejected = record { 0 = number_of (rejected_sum_field f) } }

-- the amount with VAT of listed line k
unfoldable pub listed_amount : List ℕ → ℕ → ℕ
listed_amount tic k = number_of (gross_amount (row_at tic k))

unfoldable pub listed_sum : List ℕ → ℕ → ℕ
listed_sum tic n = sum_below n (listed_amount tic)

-- the rejected sum is that of the listed lines; with no line accepted the accepted sum is zero
abbrev pub sum_tests : TicHead → TicSums → ℕ → List Bool
sum_tests h s listed =
    eqb s.rejected.0 listed
    ∷ (ltb 0 h.accepted.0 || eqb s.accepted.0 0)
    ∷ []

unfoldable pub sums_fit : TicHead → TicSums → ℕ → Bool
sums_fit h s listed = every (sum_tests h s listed)

-- ---- the whole, for n listed lines
abbrev pub tic_header : List ℕ → List ℕ
tic_header tic = header_of tic_layout tic

abbrev pub tic_footer : List ℕ → ℕ → List ℕ
tic_footer tic n = footer_of tic_layout tic n

abbrev pub read_rows : List ℕ → ℕ → List (Row (Result TicValues TicFault))
read_rows tic n =
    (not (is_framed (framed_lines tic_layout tic)) ⇒ Err Framing)
    ∷ (not (header_sound (tic_header tic)) ⇒ Err Header)
    ∷ (not (counts_agree (tic_header tic) n) ⇒ Err Counts)
    ∷ (not (lines_formed tic n) ⇒ Err ListedLine)
    ∷ (not (footer_formed (tic_footer tic n)) ⇒ Err Footer)
    ∷ (not (sums_fit (head_of (tic_header tic)) (sums_of (tic_footer tic n)) (listed_sum tic n)) ⇒ Err Footer)
    ∷ []

abbrev pub values_of : List ℕ → ℕ → TicValues
values_of tic n = record { head = head_of (tic_header tic); listed = n; sums = sums_of (tic_footer tic n) }

-- the number of lines that length and line feeds give
abbrev pub tic_lines : List ℕ → ℕ
tic_lines tic = framed_count (framed_lines tic_layout tic)

unfoldable pub read_tic : List ℕ → Result TicValues TicFault
read_tic tic = first_of (read_rows tic (tic_lines tic)) (Ok (values_of tic (tic_lines tic)))
