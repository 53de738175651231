-- The call as a whole: what is lent, the answer, and what is lent afterwards. Assumes nothing.
use Rattle.std.specs.Prelude.{◌≡◌, ℕ, ◌<◌, Bool, true, false, cond, List, [], ◌++◌, length, drop, Err, Ok}
use Rattle.lines.specs.Splice.{splice}
use Rattle.tif.specs.Acceptance.{Acceptance, acceptance_of}
use Rattle.tif.specs.Name.{name_sender}
use Rattle.tif.specs.Side.{side_of}
use Rattle.tic_text.specs.Text.{Tic, tic_text}
use Rattle.verdicts.specs.declared.record.Record.{Record}
use Rattle.judging.specs.Judging.{Judging, judging, marks_before, words_of}
use Rattle.answers.specs.Fault.{check_call}
use Rattle.answers.specs.Listing.{tic_of}
use Rattle.answers.specs.Told.{summary_for, head_of, sums_of, too_small}
use Rattle.judge.specs.Records.{LineKnown, records_to}
use Rattle.answers.specs.Answer.{Answer}
use Rattle.answers.specs.Answer.{CallCheck}
use Rattle.answers.specs.declared.answer.CallFault.TheVariants.{Room}
use Rattle.answers.specs.declared.answer.Summary.{Summary}
use Rattle.answers.specs.declared.inputs.Inputs.{Inputs}

-- everything lent; of the record table only its length decides
pub record Call : Type 0 where
  pub name : List ℕ
  pub received : List ℕ
  pub card : List ℕ
  pub names : List ℕ
  pub book : List ℕ
  pub debits : List ℕ
  pub marks : List ℕ
  pub tif : List ℕ
  pub tst : List ℕ
  pub room : ℕ
  pub out : List ℕ

abbrev pub call_of : List ℕ → List ℕ → List ℕ → List ℕ → List ℕ → List ℕ → List ℕ → List ℕ → List ℕ → ℕ → List ℕ → Call
call_of name received card names book debits marks tif tst room out = record {
  name = name;
  received = received;
  card = card;
  names = names;
  book = book;
  debits = debits;
  marks = marks;
  tif = tif;
  tst = tst;
  room = room;
  out = out;
}

-- the same of what is lent for reading together, and of what is lent for writing
abbrev pub call_with : Inputs → List ℕ → ℕ → List ℕ → Call
call_with i marks room out = call_of i.name.now i.received.now i.card.now i.names.now i.book.now i.debits.now marks i.tif.now i.tst.now room out

-- E1 to E6 and E8
abbrev pub check_of : Call → CallCheck
check_of c = check_call c.name c.received c.card c.names c.book c.debits c.marks c.tst

-- 02, 05, 03, 04, or the file is judged line by line
abbrev pub file_of : Call → Acceptance
file_of c = acceptance_of c.name c.names c.tif

-- how many lines are judged: none with 02 to 05
abbrev pub lines_to_judge : Acceptance → ℕ
lines_to_judge (Ok w) = w.lines
lines_to_judge (Err e) = 0

-- the lines are judged by the side of the file, the sender in its name, the book, the open debits and the station table
abbrev pub judging_of : Call → Judging
judging_of c = judging (side_of c.tif) (name_sender c.name) c.book c.debits c.tif c.tst

abbrev pub lines_of : Call → ℕ
lines_of c = lines_to_judge (file_of c)

-- the words of the lines, and the marks after them
unfoldable pub words_judged : Call → List ℕ
words_judged c = words_of (judging_of c) c.marks (lines_of c)

unfoldable pub marks_judged : Call → List ℕ
marks_judged c = marks_before (judging_of c) c.marks (lines_of c)

unfoldable pub summary_of : Call → Summary
summary_of c = summary_for (file_of c) c.tif (words_judged c)

unfoldable pub tic_of_call : Call → Tic
tic_of_call c = tic_of c.name c.received c.card c.tif (words_judged c) (head_of (summary_of c)) (sums_of (summary_of c))

-- the answer of a call that is sound so far
abbrev pub answer_sound : Summary → ℕ → ℕ → Answer
answer_sound s room size = cond (too_small s room size) (Err Room) (Ok s)

abbrev pub answer_for : CallCheck → Answer → Answer
answer_for (Err fault) sound = Err fault
answer_for (Ok tt) sound = sound

unfoldable pub answer_of : Call → Answer
answer_of c = answer_for (check_of c) (answer_sound (summary_of c) c.room (length c.out))

-- a call refused by number leaves what is lent as it was
abbrev pub is_answered : Answer → Bool
is_answered (Err fault) = false
is_answered (Ok s) = true

unfoldable pub marks_of : Call → List ℕ
marks_of c = cond (is_answered (answer_of c)) (marks_judged c) c.marks

unfoldable pub out_of : Call → List ℕ
out_of c = cond (is_answered (answer_of c)) (splice c.out 0 (tic_text (tic_of_call c))) c.out

-- how many records are filled
abbrev pub lines_to_record : Answer → ℕ
lines_to_record (Err fault) = 0
lines_to_record (Ok s) = s.lines

unfoldable pub records_of : Call → List Record → List Record
records_of c records = records_to c.tif (words_judged c) (lines_to_record (answer_of c)) ++ drop (lines_to_record (answer_of c)) records

-- the words that are kept: those of the lines judged, where the call is answered
unfoldable pub words_kept : Call → List ℕ
words_kept c = cond (is_answered (answer_of c)) (words_judged c) []

-- what the call over words ensures: the words that are kept stand in front of those lent
pub record WordsJudged (c : Call) (words : List ℕ) (r : Answer) (marks' words' out' : List ℕ) : Type 0 where
  pub answer : r ≡ answer_of c
  pub marks_then : marks' ≡ marks_of c
  pub out_then : out' ≡ out_of c
  pub words_then : words' ≡ splice words 0 (words_kept c)
  pub long : length words' ≡ length words
  -- what a record of a line rests on
  pub known : (k : ℕ) → k < lines_to_record r → LineKnown c.tif words' k

-- what the public call ensures
pub record Judged (c : Call) (records : List Record) (r : Answer) (marks' : List ℕ) (records' : List Record) (out' : List ℕ) : Type 0 where
  pub answer : r ≡ answer_of c
  pub marks_then : marks' ≡ marks_of c
  pub out_then : out' ≡ out_of c
  pub records_then : records' ≡ records_of c records
