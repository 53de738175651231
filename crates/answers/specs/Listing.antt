-- The refused lines in file order, as the TIC lists them. Assumes nothing.
use Rattle.std.specs.Prelude.{◌≡◌, Bool, true, ◌&&◌, cond, List, [], ℕ, ◌+◌, ◌*◌, ◌≤◌, ◌<◌, length, get_or, eqb}
use Rattle.lines.specs.Below.{first_below, sum_below, join_below}
use Rattle.lines.specs.Rows.{line_place}
use Rattle.passage.specs.Passage.{line_width}
use Rattle.tif.specs.Body.{line_at}
use Rattle.tif.specs.Columns.{tif_layout}
use Rattle.tif.specs.Name.{name_receiver, name_stem}
use Rattle.tic_text.specs.Text.{Tic, listed_text}
use Rattle.tic_text.specs.declared.values.TicHead.{TicHead}
use Rattle.tic_text.specs.declared.values.TicSums.{TicSums}
use Rattle.verdicts.specs.Verdict.{word_number}
use Rattle.judging.specs.Sums.{is_counted, one_at}
use Rattle.answers.specs.Card.{code_of}

-- the paper's number of the verdict on line k, counted from 0
abbrev pub number_at : List ℕ → ℕ → ℕ
number_at words k = word_number (get_or words k 0)

-- the word of line k refuses it
abbrev pub refused_at : List ℕ → ℕ → Bool
refused_at words k = is_counted true words k

abbrev pub refused_one : List ℕ → ℕ → ℕ
refused_one words k = one_at true words k

-- how many of the first k lines are refused
unfoldable pub refused_before : List ℕ → ℕ → ℕ
refused_before words k = sum_below k (one_at true words)

-- line k is refused, and j lines before it are
unfoldable pub is_refusal : List ℕ → ℕ → ℕ → Bool
is_refusal words j k = refused_at words k && eqb (refused_before words k) j

-- which line the refusal numbered j from 0 is
unfoldable pub refused_place : List ℕ → ℕ → ℕ
refused_place words j = first_below (length words) (is_refusal words j)

-- line k as it stands in the TIC
unfoldable pub line_listed : List ℕ → List ℕ → List ℕ → ℕ → List ℕ
line_listed tif card words k = listed_text (line_at tif k) (code_of card (number_at words k))

-- what the TIC has of line k: its text where it is refused, else nothing
unfoldable pub refused_text : List ℕ → List ℕ → List ℕ → ℕ → List ℕ
refused_text tif card words k = cond (refused_at words k) (line_listed tif card words k) []

-- the TIC of a file: each refused line with its code, in file order
abbrev pub tic_of : List ℕ → List ℕ → List ℕ → List ℕ → List ℕ → TicHead → TicSums → Tic
tic_of name received card tif words h s = record {
  receiver = name_receiver name;
  stem = name_stem name;
  moment = received;
  head = h;
  line = λ j. line_at tif (refused_place words j);
  code = λ j. code_of card (number_at words (refused_place words j));
  sums = s;
}

-- the refused ones of the first k lines, one behind the other
unfoldable pub listed_lines : List ℕ → List ℕ → List ℕ → ℕ → List ℕ
listed_lines tif card words k = join_below k (refused_text tif card words)

-- words of lines that the file has, each with a number that the card knows
pub record Worded (tif card words : List ℕ) : Type 0 where
  pub lined : (k : ℕ) → k < length words → line_place tif_layout k + line_width ≤ length tif
  pub known : (k : ℕ) → k < length words → number_at words k * 2 ≤ length card

-- room for the listed lines from a place on
pub record ListRoom (tif card words : List ℕ) (from : ℕ) (out : List ℕ) : Type 0 where
  pub worded : Worded tif card words
  pub room : from + refused_before words (length words) * 812 ≤ length out

-- a name and a moment of their widths, a head that counts the refused lines, and room for the whole TIC
pub record TicRoom (name received card tif words : List ℕ) (h : TicHead) (out : List ℕ) : Type 0 where
  pub named : length name ≡ 35
  pub dated : length received ≡ 14
  pub worded : Worded tif card words
  pub counted : h.rejected.0 ≡ refused_before words (length words)
  pub room : 324 + refused_before words (length words) * 812 ≤ length out
