-- What becomes of a file before its lines are judged: 02, then 05, then 03, then 04. Assumes nothing.
use Rattle.std.specs.Prelude.{Bool, true, false, not, cond, List, [], ◌∷◌, ℕ, eqb, Result, Ok, Err, Option, Some, None}
use Rattle.lines.specs.FirstOf.{Row, ◌⇒◌, first_of}
use Rattle.lines.specs.Rows.{header_of, footer_of, framed_lines}
use Rattle.tif.specs.Body.{gross_of, body_sound, body_total}
use Rattle.tif.specs.Columns.{tif_layout}
use Rattle.tif.specs.Footer.{footer_sound, total_of}
use Rattle.tif.specs.Header.{header_sound, records_of, transactions_of, counts_agree}
use Rattle.tif.specs.Received.{is_received}
use Rattle.tif.specs.declared.acceptance.FileFault.{FileFault}
use Rattle.tif.specs.declared.acceptance.FileFault.TheVariants.{AlreadyReceived, OutOfForm, CountsDiffer, TotalDiffers}
use Rattle.tif.specs.declared.acceptance.Whole.{Whole}

-- a file that is to be judged line by line, or why it is not
abbrev pub Acceptance : Type 0
Acceptance = Result Whole FileFault

-- length and line feeds are right, for some number of lines from 0 to 9,999
abbrev pub is_framed : Option ℕ → Bool
is_framed (Some n) = true
is_framed None = false

-- that number
abbrev pub framed_count : Option ℕ → ℕ
framed_count (Some n) = n
framed_count None = 0

abbrev pub tif_lines : List ℕ → ℕ
tif_lines tif = framed_count (framed_lines tif_layout tif)

abbrev pub tif_header : List ℕ → List ℕ
tif_header tif = header_of tif_layout tif

-- the footer of a TIF of n lines
abbrev pub tif_footer : List ℕ → ℕ → List ℕ
tif_footer tif n = footer_of tif_layout tif n

-- the causes in order, for a file of n lines where it is one of whole lines
abbrev pub acceptance_rows : List ℕ → List ℕ → List ℕ → ℕ → List (Row Acceptance)
acceptance_rows name names tif n =
    (is_received names name ⇒ Err AlreadyReceived)
    ∷ (not (is_framed (framed_lines tif_layout tif)) ⇒ Err OutOfForm)
    ∷ (not (header_sound name (tif_header tif)) ⇒ Err OutOfForm)
    ∷ (not (body_sound tif n) ⇒ Err OutOfForm)
    ∷ (not (footer_sound (tif_footer tif n)) ⇒ Err OutOfForm)
    ∷ (not (counts_agree (records_of (tif_header tif)) (transactions_of (tif_header tif)) n) ⇒ Err CountsDiffer)
    ∷ (not (eqb (total_of (tif_footer tif n)) (body_total tif n)) ⇒ Err TotalDiffers)
    ∷ []

-- n lines and the exact sum of their amounts with VAT
abbrev pub whole_of : List ℕ → ℕ → Whole
whole_of tif n = record { lines = n; total = gross_of (body_total tif n) }

unfoldable pub acceptance_of : List ℕ → List ℕ → List ℕ → Acceptance
acceptance_of name names tif = first_of (acceptance_rows name names tif (tif_lines tif)) (Ok (whole_of tif (tif_lines tif)))

-- the paper's number of each case; of a file whose lines are judged, 01 where some of them are refused and 00 where none is
abbrev pub acceptance_number : ℕ → Acceptance → ℕ
acceptance_number refused (Ok w) = cond (eqb refused 0) 0 1
acceptance_number refused (Err AlreadyReceived) = 2
acceptance_number refused (Err OutOfForm) = 5
acceptance_number refused (Err CountsDiffer) = 3
acceptance_number refused (Err TotalDiffers) = 4
