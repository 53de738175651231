-- What is told of a file, and the room that is asked for. Assumes nothing.
use Rattle.std.specs.Prelude.{Bool, true, false, ◌||◌, cond, List, ℕ, length, eqb, ltb, Ok, Err}
use Rattle.tif.specs.Acceptance.{Acceptance}
use Rattle.tif.specs.Body.{gross_of}
use Rattle.tif.specs.Side.{side_of}
use Rattle.tif.specs.declared.acceptance.FileFault.{FileFault}
use Rattle.tic.specs.Rewriting.{tic_length}
use Rattle.tic_text.specs.declared.values.TicHead.{TicHead}
use Rattle.tic_text.specs.declared.values.TicSums.{TicSums}
use Rattle.judging.specs.Sums.{count_of, total_of}
use Rattle.answers.specs.Answer.{answer_code}
use Rattle.answers.specs.declared.answer.FileAnswer.{FileAnswer}
use Rattle.answers.specs.declared.answer.FileAnswer.TheVariants.{Accepted, PartlyAccepted, AlreadyReceived, CountsDiffer, TotalDiffers, OutOfForm}
use Rattle.answers.specs.declared.answer.Summary.{Summary}

-- the total that is told: zero with 02 to 05
abbrev pub total_told : Acceptance → ℕ
total_told (Ok w) = w.total.0
total_told (Err e) = 0

-- 01 where a line is refused, 00 where none is
unfoldable pub judged_answer : ℕ → FileAnswer
judged_answer refused = cond (eqb refused 0) Accepted PartlyAccepted

abbrev pub file_answer : Acceptance → ℕ → FileAnswer
file_answer (Ok w) refused = judged_answer refused
file_answer (Err FileFault.AlreadyReceived) refused = AlreadyReceived
file_answer (Err FileFault.OutOfForm) refused = OutOfForm
file_answer (Err FileFault.CountsDiffer) refused = CountsDiffer
file_answer (Err FileFault.TotalDiffers) refused = TotalDiffers

-- what is told of a file with these words
abbrev pub summary_for : Acceptance → List ℕ → List ℕ → Summary
summary_for file tif words = record {
  answer = file_answer file (count_of true words);
  side = side_of tif;
  lines = length words;
  accepted = count_of false words;
  refused = count_of true words;
  total = gross_of (total_told file);
  accepted_amount = gross_of (total_of false tif words);
  refused_amount = gross_of (total_of true tif words);
  length = tic_length (count_of true words);
}

-- what is told of a file that is refused as a whole
abbrev pub refused_file : FileAnswer → List ℕ → Summary
refused_file answer tif = record {
  answer = answer;
  side = side_of tif;
  lines = 0;
  accepted = 0;
  refused = 0;
  total = gross_of 0;
  accepted_amount = gross_of 0;
  refused_amount = gross_of 0;
  length = tic_length 0;
}

-- the TIC's header and footer by what is told
abbrev pub head_of : Summary → TicHead
head_of s = record { acceptance = answer_code s.answer; side = s.side; accepted = record { 0 = s.accepted }; rejected = record { 0 = s.refused } }

abbrev pub sums_of : Summary → TicSums
sums_of s = record { accepted = s.accepted_amount; rejected = s.refused_amount }

-- E7: the output is shorter than the TIC, or there are fewer records than lines judged
abbrev pub too_small : Summary → ℕ → ℕ → Bool
too_small s room size = ltb size s.length || ltb room s.lines
