-- What is known of a file that is to be judged line by line. Later steps lean on it. Assumes nothing.
use Rattle.std.specs.Prelude.{◌≡◌, true, false, List, ℕ, ◌<◌, length}
use Rattle.lines.specs.Columns.{col}
use Rattle.lines.specs.Number.{all_digits}
use Rattle.lines.specs.Rows.{one_feed}
use Rattle.lines.specs.RowsLaws.{Framed}
use Rattle.passage.specs.Passage.{line_width, gross_amount}
use Rattle.tif.specs.Acceptance.{tif_header, tif_footer}
use Rattle.tif.specs.Body.{line_at, body_total}
use Rattle.tif.specs.Columns.{tif_layout, header_sender, header_receiver, header_sequence}
use Rattle.tif.specs.Footer.{footer_sound, total_of}
use Rattle.tif.specs.Header.{header_sound, records_of, transactions_of, counts_agree}
use Rattle.tif.specs.Name.{name_sender, name_receiver, name_identity}
use Rattle.tif.specs.Received.{is_received}
use Rattle.tif.specs.Side.{side_of, is_sided}
use Rattle.tif.specs.declared.acceptance.Whole.{Whole}

-- a line: 810 bytes, "1" first, an amount with VAT of digits, a line feed at its end and nowhere else
pub record SoundLine (line : List ℕ) : Type 0 where
  pub long : length line ≡ line_width
  pub first : col 1 line ≡ 49
  pub digits : all_digits (gross_amount line) ≡ true
  pub feed : one_feed line ≡ true

-- the header: sound, of the named file, and for one side or the other
pub record SoundHeader (name header : List ℕ) : Type 0 where
  pub sound : header_sound name header ≡ true
  pub sender : header_sender header ≡ name_sender name
  pub receiver : header_receiver header ≡ name_receiver name
  pub sequence : header_sequence header ≡ name_identity name
  pub sided : is_sided (side_of header) ≡ true

-- the file: of a new name, w lines between a sound header and a sound footer, the counts those of the lines, the total the exact sum
pub record JudgedFile (name names tif : List ℕ) (w : Whole) : Type 0 where
  pub fresh : is_received names name ≡ false
  pub framed : Framed tif_layout tif w.lines
  pub header : SoundHeader name (tif_header tif)
  pub each : (k : ℕ) → k < w.lines → SoundLine (line_at tif k)
  pub footer : footer_sound (tif_footer tif w.lines) ≡ true
  pub counts : counts_agree (records_of (tif_header tif)) (transactions_of (tif_header tif)) w.lines ≡ true
  pub stated : total_of (tif_footer tif w.lines) ≡ w.total.0
  pub sum : w.total.0 ≡ body_total tif w.lines
  pub sided : is_sided (side_of tif) ≡ true
  -- fifteen digits hold it
  pub small : w.total.0 < 1000000000000000
