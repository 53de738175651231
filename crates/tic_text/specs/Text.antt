-- The TIC as a text of a value: header, listed lines, footer. Assumes nothing.
use Rattle.std.specs.Prelude.{◌≡◌, List, [], ◌∷◌, ◌++◌, ℕ, ◌+◌, ◌≤◌, length, replicate}
use Rattle.lines.specs.Below.{join_below}
use Rattle.lines.specs.Columns.{cols}
use Rattle.lines.specs.Number.{digits_of}
use Rattle.tif.specs.Header.{nok}
use Rattle.tif.specs.Name.{tif_kind, version}
use Rattle.tif.specs.Side.{side_text}
use Rattle.tic_text.specs.Pieces.{joined}
use Rattle.tic_text.specs.declared.values.TicHead.{TicHead}
use Rattle.tic_text.specs.declared.values.TicSums.{TicSums}

-- `TIC`
abbrev pub tic_kind : List ℕ
tic_kind = 84 ∷ 73 ∷ 67 ∷ []

unfoldable pub zeros : ℕ → List ℕ
zeros n = replicate n 48

unfoldable pub blanks : ℕ → List ℕ
blanks n = replicate n 32

abbrev pub line_feed : List ℕ
line_feed = 10 ∷ []

-- counts and sums are fifteen digits
abbrev pub fifteen : ℕ → List ℕ
fifteen v = digits_of 15 v

-- ---- the header, 196 bytes
-- "0", the TIF's receiver, the TIF's sender
abbrev pub actor_pieces : List ℕ → List ℕ → List (List ℕ)
actor_pieces receiver sender = (48 ∷ []) ∷ receiver ∷ sender ∷ []

-- "TIC" and name columns 4 to 21; name columns 1 to 21
abbrev pub sequence_pieces : List ℕ → List (List ℕ)
sequence_pieces stem = tic_kind ∷ stem ∷ tif_kind ∷ stem ∷ []

-- these, the reception moment, "NOK"; the stem is columns 4 to 21 of the TIF's name, of which the first six are the sender
abbrev pub front_pieces : List ℕ → List ℕ → List ℕ → List (List ℕ)
front_pieces receiver stem moment = actor_pieces receiver (cols 1 6 stem) ++ sequence_pieces stem ++ (moment ∷ nok ∷ [])

abbrev pub number_pieces : ℕ → ℕ → List (List ℕ)
number_pieces first second = fifteen first ∷ fifteen second ∷ []

-- accepted, rejected; CRE, DEB or "000"; accepted and rejected again as transactions
abbrev pub count_pieces : TicHead → List (List ℕ)
count_pieces h =
    number_pieces h.accepted.0 h.rejected.0
    ++ (side_text h.side ∷ [])
    ++ number_pieces h.accepted.0 h.rejected.0

-- "130001"; six blanks; 46 zeros
abbrev pub filler_pieces : List (List ℕ)
filler_pieces = version ∷ blanks 6 ∷ zeros 46 ∷ []

-- these, the two-digit acceptance, line feed
abbrev pub end_pieces : ℕ → List (List ℕ)
end_pieces acceptance = filler_pieces ++ (digits_of 2 acceptance ∷ line_feed ∷ [])

abbrev pub header_pieces : List ℕ → List ℕ → List ℕ → TicHead → List (List ℕ)
header_pieces receiver stem moment h = front_pieces receiver stem moment ++ count_pieces h ++ end_pieces h.acceptance

unfoldable pub header_text : List ℕ → List ℕ → List ℕ → TicHead → List ℕ
header_text receiver stem moment h = joined (header_pieces receiver stem moment h)

-- ---- a listed line, 812 bytes: "1", columns 2 to 809 of the TIF's line, the code, line feed
abbrev pub listed_pieces : List ℕ → List ℕ → List (List ℕ)
listed_pieces line code = (49 ∷ []) ∷ cols 2 809 line ∷ code ∷ line_feed ∷ []

unfoldable pub listed_text : List ℕ → List ℕ → List ℕ
listed_text line code = joined (listed_pieces line code)

-- ---- the footer, 128 bytes: "2", accepted sum, rejected sum, 96 zeros, line feed
abbrev pub footer_pieces : TicSums → List (List ℕ)
footer_pieces s = (50 ∷ []) ∷ fifteen s.accepted.0 ∷ fifteen s.rejected.0 ∷ zeros 96 ∷ line_feed ∷ []

unfoldable pub footer_text : TicSums → List ℕ
footer_text s = joined (footer_pieces s)

-- ---- the whole
-- a TIC by its values; lines and codes are numbered from 0
pub record Tic : Type 0 where
  pub receiver : List ℕ
  pub stem : List ℕ
  pub moment : List ℕ
  pub head : TicHead
  pub line : ℕ → List ℕ
  pub code : ℕ → List ℕ
  pub sums : TicSums

unfoldable pub listed_at : Tic → ℕ → List ℕ
listed_at v k = listed_text (v.line k) (v.code k)

-- as many lines as are rejected
abbrev pub listed_count : Tic → ℕ
listed_count v = v.head.rejected.0

unfoldable pub tic_text : Tic → List ℕ
tic_text v =
    header_text v.receiver v.stem v.moment v.head
    ++ join_below (listed_count v) (listed_at v)
    ++ footer_text v.sums

-- ---- what writing asks for: texts of their widths, and room
pub record FrontRoom (receiver stem moment : List ℕ) (at width : ℕ) (out : List ℕ) : Type 0 where
  pub receiver_long : length receiver ≡ 6
  pub stem_long : length stem ≡ 18
  pub moment_long : length moment ≡ 14
  pub room : at + width ≤ length out

pub record ListedRoom (line code : List ℕ) (at : ℕ) (out : List ℕ) : Type 0 where
  pub line_long : 809 ≤ length line
  pub code_long : length code ≡ 2
  pub room : at + 812 ≤ length out
