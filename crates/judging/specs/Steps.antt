-- What each step of the judging rests on, and what it gives. Assumes nothing.
use Rattle.std.specs.Prelude.{◌≡◌, true, cond, List, ℕ, ◌*◌, ◌≤◌, length, set}
use Rattle.lines.specs.Rows.{line_place, most_lines}
use Rattle.passage.specs.Passage.{line_width}
use Rattle.tif.specs.Body.{line_at}
use Rattle.tif.specs.Columns.{tif_layout}
use Rattle.tif.specs.declared.side.Side.{Side}
use Rattle.book.specs.Form.{book_sound}
use Rattle.book.specs.Layout.{width}
use Rattle.debits.specs.Taking.{taken, marks_then}
use Rattle.verdicts.specs.Verdict.{word_of}
use Rattle.verdicts.specs.declared.verdict.Verdict.{Verdict}
use Rattle.judging.specs.declared.line.Judging.{Judging as Lends}
use Rattle.judging.specs.Judging.{Judging, judging, is_credit_file, repeated_at, cover_on, credit_of, passed_verdict, verdict_on, marks_next, marks_before, words_of}

-- what the struct lends to judge by
abbrev pub judged_by : Lends → Judging
judged_by j = judging j.side j.sender.now j.book.now j.debits.now j.tif.now j.tst.now

-- a sound book, a line for each mark, and n lines in the file
pub record Given (book debits marks tif : List ℕ) (n : ℕ) : Type 0 where
  pub booked : book_sound width book ≡ true
  pub owed : length marks * line_width ≤ length debits
  pub few : length marks ≤ most_lines
  pub lined : line_place tif_layout n ≤ length tif

abbrev pub GivenTo : Judging → List ℕ → ℕ → Type 0
GivenTo j marks n = Given j.book j.debits marks j.tif n

-- a credit judged that passed L1 to L5 and L9
pub record CreditJudged (debits marks credit : List ℕ) (v : Verdict) (after : List ℕ) : Type 0 where
  pub verdict : v ≡ credit_of (taken debits marks credit)
  pub marked : after ≡ marks_then marks (taken debits marks credit)

-- a line judged that passed L1 to L5 and L9
pub record PassedJudged (side : Side) (book debits marks tif : List ℕ) (k : ℕ) (v : Verdict) (after : List ℕ) : Type 0 where
  pub verdict : v ≡ passed_verdict side (repeated_at tif k) (cover_on book (line_at tif k)) (taken debits marks (line_at tif k))
  pub marked : after ≡ cond (is_credit_file side) (marks_then marks (taken debits marks (line_at tif k))) marks

-- a line judged: its verdict, and the marks afterwards
pub record Judged (j : Judging) (marks : List ℕ) (k : ℕ) (v : Verdict) (after : List ℕ) : Type 0 where
  pub verdict : v ≡ verdict_on j marks k
  pub marked : after ≡ marks_next j marks k

-- a line judged into its word
pub record Stepped (j : Judging) (k : ℕ) (marks words marks' words' : List ℕ) : Type 0 where
  pub marked : marks' ≡ marks_next j marks k
  pub worded : words' ≡ set words k (word_of (verdict_on j marks k))

-- n lines judged
pub record AllJudged (j : Judging) (n : ℕ) (marks marks' words' : List ℕ) : Type 0 where
  pub marked : marks' ≡ marks_before j marks n
  pub worded : words' ≡ words_of j marks n
