-- Calls written out from their fields: lines and TIFs in the paper's columns, a small book, and with them the worked file of 01, byte for byte that of
-- examples/worked.job. Assumes nothing.
use Rattle.std.specs.Prelude.{List, [], ◌∷◌, ◌++◌, ℕ, ◌-◌, length, get_or, replicate}
use Rattle.lines.specs.Below.{join_below}
use Rattle.lines.specs.Number.{digits_of}
use Rattle.tif.specs.Header.{nok}
use Rattle.tif.specs.Name.{tif_kind, version}
use Rattle.tif.specs.Side.{side_text}
use Rattle.tif.specs.Worked.{name_of}
use Rattle.tif.specs.declared.side.Side.{Side}
use Rattle.tif.specs.declared.side.Side.TheVariants.{Debit}
use Rattle.tic_text.specs.Pieces.{joined}
use Rattle.tic_text.specs.Text.{zeros, blanks, line_feed}
use Rattle.judge.specs.Call.{Call}

-- ---- who and what
-- `TIF100123202606150001_20000B_130001`
abbrev pub worked_name : List ℕ
worked_name = name_of (digits_of 4 1)

-- `100123` and `20000B`
abbrev pub sender : List ℕ
sender = digits_of 6 100123

abbrev pub receiver : List ℕ
receiver = digits_of 5 20000 ++ (66 ∷ [])

-- a PAN that the book has, one that it has not, and none
abbrev pub known_pan : List ℕ
known_pan = digits_of 19 9578000100000000017

abbrev pub unknown_pan : List ℕ
unknown_pan = digits_of 19 9578000100000000025

abbrev pub no_pan : List ℕ
no_pan = blanks 19

-- `AB12345` of nation `NO`
abbrev pub plate_and_nation : List ℕ
plate_and_nation = 65 ∷ 66 ∷ 49 ∷ 50 ∷ 51 ∷ 52 ∷ 53 ∷ 32 ∷ 32 ∷ 32 ∷ 78 ∷ 79 ∷ []

-- ---- a line of a TIF, 810 bytes
-- what distinguishes one passage of that plate from another
pub record Passing : Type 0 where
  pub type : List ℕ
  pub pan : List ℕ
  pub moment : ℕ
  pub fee : ℕ
  pub amount : ℕ

-- columns 1 to 91: "1", type of transit, PAN; from 61 the exit moment; from 77 the exit actor; from 84 station and lane
abbrev pub place_pieces : Passing → List (List ℕ)
place_pieces p = (49 ∷ []) ∷ p.type ∷ p.pan ∷ zeros 38 ∷ digits_of 14 p.moment ∷ zeros 2 ∷ sender ∷ zeros 1 ∷ digits_of 4 42 ∷ digits_of 4 2 ∷ []

-- columns 92 to 239: from 115 the fee without VAT, the VAT, the amount with VAT and NOK; from 228 the counter
abbrev pub amount_pieces : Passing → List (List ℕ)
amount_pieces p = zeros 23 ∷ digits_of 11 p.fee ∷ digits_of 11 (p.amount - p.fee) ∷ digits_of 11 p.amount ∷ nok ∷ zeros 77 ∷ digits_of 12 0 ∷ []

-- columns 240 to 809: the declared plate, the detected plate; from 293 fuel 02N, emission 06, tariff class 22
abbrev pub vehicle_pieces : List (List ℕ)
vehicle_pieces = plate_and_nation ∷ plate_and_nation ∷ zeros 29 ∷ (48 ∷ 50 ∷ 78 ∷ []) ∷ digits_of 2 6 ∷ digits_of 2 22 ∷ zeros 510 ∷ []

abbrev pub line_pieces : Passing → List (List ℕ)
line_pieces p = place_pieces p ++ amount_pieces p ++ vehicle_pieces

-- all of them, and a line feed
unfoldable pub line_with : Passing → List ℕ
line_with p = joined (line_pieces p ++ (line_feed ∷ []))

-- ---- a TIF of 15 June 2026 with a sequence of the day
-- `TIF`, sender, date, four digits of the sequence
abbrev pub sequence_pieces : ℕ → List (List ℕ)
sequence_pieces sequence = tif_kind ∷ sender ∷ digits_of 8 20260615 ∷ digits_of 4 sequence ∷ []

-- NOK, records, CRE or DEB, transactions
abbrev pub count_pieces : Side → ℕ → List (List ℕ)
count_pieces side n = nok ∷ digits_of 15 n ∷ side_text side ∷ digits_of 15 n ∷ []

-- "0", sender, receiver, file sequence; `TIF`, twelve zeros and six blanks as previous sequence; these; creation moment, version, zeros
abbrev pub header_pieces : ℕ → Side → ℕ → List (List ℕ)
header_pieces sequence side n =
    ((48 ∷ []) ∷ sender ∷ receiver ∷ [])
    ++ sequence_pieces sequence
    ++ (tif_kind ∷ zeros 12 ∷ blanks 6 ∷ [])
    ++ count_pieces side n
    ++ (digits_of 14 20260615230000 ∷ version ∷ zeros 50 ∷ [])

unfoldable pub header_with : ℕ → Side → ℕ → List ℕ
header_with sequence side n = joined (header_pieces sequence side n ++ (line_feed ∷ []))

-- "2", the total with VAT, zeros
abbrev pub footer_pieces : ℕ → List (List ℕ)
footer_pieces total = (50 ∷ []) ∷ digits_of 15 total ∷ zeros 90 ∷ []

unfoldable pub footer_with : ℕ → List ℕ
footer_with total = joined (footer_pieces total ++ (line_feed ∷ []))

-- line k of some, counted from 0
unfoldable pub row_of : List (List ℕ) → ℕ → List ℕ
row_of rows k = get_or rows k []

unfoldable pub tif_with : ℕ → Side → List (List ℕ) → ℕ → List ℕ
tif_with sequence side rows total = header_with sequence side (length rows) ++ join_below (length rows) (row_of rows) ++ footer_with total

-- ---- a book of one agreement, with the known PAN: its body stands at 25, has the lease reference `LEASE-000017` and two periods of that plate, the
-- second from the end of the first on and without end
abbrev pub worked_book : List ℕ
worked_book =
    (0 ∷ 1 ∷ [])
    ++ (known_pan ++ (0 ∷ 0 ∷ 0 ∷ 25 ∷ []))
    ++ ((76 ∷ 69 ∷ 65 ∷ 83 ∷ 69 ∷ 45 ∷ []) ++ digits_of 6 17 ++ (0 ∷ 2 ∷ []))
    ++ (plate_and_nation ++ digits_of 14 20260101000000 ++ digits_of 14 20260301000000)
    ++ (plate_and_nation ++ digits_of 14 20260301000000 ++ digits_of 14 99999999999999)

-- the codes of L1 to L8: 09, 09, 08, 10, 04, 14, 07, 13
abbrev pub worked_card : List ℕ
worked_card = digits_of 16 909081004140713

-- ---- the worked file: three passages, one by a PAN of the book, one by a PAN that it has not, one by the plate
-- types of transit `C1` and `C8`
abbrev pub c1 : List ℕ
c1 = 67 ∷ 49 ∷ []

abbrev pub c8 : List ℕ
c8 = 67 ∷ 56 ∷ []

abbrev pub first_passing : Passing
first_passing = record { type = c1; pan = known_pan; moment = 20260614081530; fee = 4000; amount = 5000 }

abbrev pub second_passing : Passing
second_passing = record { type = c1; pan = unknown_pan; moment = 20260614114500; fee = 10040; amount = 12550 }

abbrev pub third_passing : Passing
third_passing = record { type = c8; pan = no_pan; moment = 20260614173011; fee = 240; amount = 300 }

abbrev pub worked_rows : List (List ℕ)
worked_rows = line_with first_passing ∷ line_with second_passing ∷ line_with third_passing ∷ []

-- no names received before, no open debits; how many records are lent, and what output, is the caller's
abbrev pub worked_with : ℕ → List ℕ → Call
worked_with room out = record {
  name = worked_name;
  received = digits_of 14 20260616020000;
  card = worked_card;
  names = [];
  book = worked_book;
  debits = [];
  marks = [];
  tif = tif_with 1 Debit worked_rows 17850;
  tst = [];
  room = room;
  out = out;
}

-- a record for each line, and zeros for just a TIC with one line
abbrev pub worked_call : Call
worked_call = worked_with 3 (replicate 1136 0)
