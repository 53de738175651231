-- What the TIC of a call says: its values, each listed line as columns 1 to 809 of the TIF's. Assumes nothing.
use Rattle.std.specs.Prelude.{List, ℕ, take}
use Rattle.lines.specs.Columns.{cols}
use Rattle.tif.specs.Body.{line_at}
use Rattle.tif.specs.Name.{name_receiver, name_stem}
use Rattle.tic_text.specs.Text.{Tic}
use Rattle.answers.specs.Told.{head_of, sums_of}
use Rattle.judge.specs.Call.{Call, words_judged, summary_of}
use Rattle.answers.specs.Card.{code_of}
use Rattle.answers.specs.Listing.{number_at, refused_place}
use Rattle.answers.specs.declared.answer.Summary.{Summary}

-- which line of the file refusal j is, both counted from 0
abbrev pub refusal_of : Call → ℕ → ℕ
refusal_of c j = refused_place (words_judged c) j

-- what the TIC shows of line k: columns 1 to 809, and the code of its verdict on the card
abbrev pub line_shown : Call → ℕ → List ℕ
line_shown c k = cols 1 809 (line_at c.tif k)

abbrev pub code_shown : Call → ℕ → List ℕ
code_shown c k = code_of c.card (number_at (words_judged c) k)

-- the values of the TIC
abbrev pub values_of_tic : Call → Tic
values_of_tic c = record {
  receiver = name_receiver c.name;
  stem = name_stem c.name;
  moment = c.received;
  head = head_of (summary_of c);
  line = λ j. line_shown c (refusal_of c j);
  code = λ j. code_shown c (refusal_of c j);
  sums = sums_of (summary_of c);
}

-- the TIC that a call wrote: the front of its output, as long as the answer tells
abbrev pub tic_written : Summary → List ℕ → List ℕ
tic_written s out = take s.length out
