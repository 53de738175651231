-- What each step of the call rests on, and what it gives. Assumes nothing.
use Rattle.std.specs.Prelude.{◌≡◌, ℕ, ◌<◌, ◌≤◌, true, cond, List, [], length, take, Err, Ok}
use Rattle.lines.specs.Rows.{most_lines}
use Rattle.lines.specs.Splice.{splice}
use Rattle.tif.specs.Name.{name_sender}
use Rattle.tif.specs.Side.{side_of}
use Rattle.tst.specs.Form.{table_sound}
use Rattle.judging.specs.Judging.{judging, marks_before, words_of}
use Rattle.judging.specs.Steps.{Given}
use Rattle.tif.specs.declared.acceptance.Whole.{Whole}
use Rattle.tic_text.specs.Text.{tic_text}
use Rattle.answers.specs.Told.{head_of, sums_of, too_small}
use Rattle.judge.specs.Call.{Call, check_of, file_of, words_judged, answer_sound, answer_of, marks_of, out_of, lines_to_record}
use Rattle.answers.specs.Listing.{tic_of, TicRoom}
use Rattle.judge.specs.Records.{LineKnown}
use Rattle.answers.specs.Answer.{CallCheck}
use Rattle.answers.specs.Answer.{Answer}
use Rattle.answers.specs.declared.answer.Summary.{Summary}

-- lines to judge: a name of its width, what the judging asks for, and room for the words
pub record LinesReady (name book debits marks tif tst : List ℕ) (n : ℕ) (words : List ℕ) : Type 0 where
  pub named : length name ≡ 35
  pub given : Given book debits marks tif n
  pub tabled : table_sound tst ≡ true
  pub few : n ≤ most_lines
  pub room : n ≤ length words

-- n lines judged: the marks after them in front of the copy, their words in front of those lent
pub record Filled (name book debits marks tif tst : List ℕ) (n : ℕ) (words mine' words' : List ℕ) : Type 0 where
  pub marked : take (length marks) mine' ≡ marks_before (judging (side_of tif) (name_sender name) book debits tif tst) marks n
  pub worded : words' ≡ splice words 0 (words_of (judging (side_of tif) (name_sender name) book debits tif tst) marks n)
  pub fits : length marks ≤ length mine'

-- ready to be committed: room for the TIC, and a mark for each that is lent
pub record Committable (name received card tif words : List ℕ) (s : Summary) (mine marks out : List ℕ) : Type 0 where
  pub text : TicRoom name received card tif words (head_of s) out
  pub same : length mine ≡ length marks

-- committed
pub record Committed (name received card tif words : List ℕ) (s : Summary) (mine out marks' out' : List ℕ) : Type 0 where
  pub marks_then : marks' ≡ mine
  pub out_then : out' ≡ splice out 0 (tic_text (tic_of name received card tif words (head_of s) (sums_of s)))

-- a call that is sound so far, and whose words have room
pub record SoundReady (c : Call) (words : List ℕ) : Type 0 where
  pub sound : check_of c ≡ Ok tt
  pub room : 9999 ≤ length words

-- whose file is judged line by line
pub record FileReady (c : Call) (w : Whole) (words : List ℕ) : Type 0 where
  pub ready : SoundReady c words
  pub file : file_of c ≡ Ok w

-- ---- a file that is refused as a whole
pub record Widths (name received : List ℕ) : Type 0 where
  pub named : length name ≡ 35
  pub dated : length received ≡ 14

-- its TIC, where there is room for it
pub record FileRefused (name received card tif : List ℕ) (s : Summary) (room : ℕ) (out : List ℕ) (r : Answer) (out' : List ℕ) : Type 0 where
  pub answer : r ≡ answer_sound s room (length out)
  pub out_then : out' ≡ cond (too_small s room (length out)) out (splice out 0 (tic_text (tic_of name received card tif [] (head_of s) (sums_of s))))

-- ---- the call on words that are lent to it to work on
-- the words that were tried: those of a call that is sound so far
abbrev pub words_for : CallCheck → List ℕ → List ℕ
words_for (Err fault) words = []
words_for (Ok tt) words = words

unfoldable pub words_tried : Call → List ℕ
words_tried c = words_for (check_of c) (words_judged c)

-- what a call gives that works on words lent to it: those that were tried stand in front
pub record CallTried (c : Call) (words : List ℕ) (r : Answer) (marks' words' out' : List ℕ) : Type 0 where
  pub answer : r ≡ answer_of c
  pub marks_then : marks' ≡ marks_of c
  pub out_then : out' ≡ out_of c
  pub words_then : words' ≡ splice words 0 (words_tried c)
  -- what the records rest on
  pub room_for : lines_to_record r ≤ c.room
  pub known : (k : ℕ) → k < lines_to_record r → LineKnown c.tif words' k
