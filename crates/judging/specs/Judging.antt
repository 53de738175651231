-- The verdict on each line of a file, L1 to L9, and the marks after each. Lines are counted from 0 here. Assumes nothing.
use Rattle.std.specs.Prelude.{Bool, true, false, not, ◌&&◌, cond, List, [], ◌∷◌, ◌++◌, ℕ, Result, Option, Some, None}
use Rattle.lines.specs.Below.{some_below, table_below}
use Rattle.lines.specs.FirstOf.{Row, ◌⇒◌, first_of}
use Rattle.lines.specs.Spans.{agree_on}
use Rattle.passage.specs.Passage.{pan, exit_moment, detected_plate, detected_nation, repeat_spans}
use Rattle.tif.specs.Body.{line_at}
use Rattle.tif.specs.declared.side.Side.{Side}
use Rattle.tif.specs.declared.side.Side.TheVariants.{Credit, Debit, Neither}
use Rattle.tst.specs.Stations.{is_known_station}
use Rattle.cover.specs.Cover.{cover_of}
use Rattle.book.specs.Layout.{width}
use Rattle.cover.specs.declared.cover.Place.{Place}
use Rattle.debits.specs.Credits.{marks_after}
use Rattle.debits.specs.Taking.{taken, took_debit, marks_then}
use Rattle.verdicts.specs.LineTests.{line_rows, test_line, passes}
use Rattle.verdicts.specs.Verdict.{word_of}
use Rattle.verdicts.specs.declared.verdict.Verdict.{Verdict}
use Rattle.verdicts.specs.declared.verdict.Verdict.TheVariants.{Covered, Credits, WrongType, RepeatedLine, NotCovered, NoDebit}

-- what the lines of a file are judged by
pub record Judging : Type 0 where
  pub side : Side
  pub sender : List ℕ
  pub book : List ℕ
  pub debits : List ℕ
  pub tif : List ℕ
  pub tst : List ℕ

abbrev pub judging : Side → List ℕ → List ℕ → List ℕ → List ℕ → List ℕ → Judging
judging side sender book debits tif tst = record { side = side; sender = sender; book = book; debits = debits; tif = tif; tst = tst }

abbrev pub is_debit_file : Side → Bool
is_debit_file Credit = false
is_debit_file Debit = true
is_debit_file Neither = false

abbrev pub is_credit_file : Side → Bool
is_credit_file Credit = true
is_credit_file Debit = false
is_credit_file Neither = false

-- line i has the same type and PAN, exit moment, actor, station and lane, detected plate and nation as line k
unfoldable pub repeats_at : List ℕ → ℕ → ℕ → Bool
repeats_at tif k i = agree_on repeat_spans (line_at tif i) (line_at tif k)

-- L6: an earlier line does, whichever verdict it got
unfoldable pub repeated_at : List ℕ → ℕ → Bool
repeated_at tif k = some_below k (repeats_at tif k)

-- what covers a line: by its PAN, exit moment, detected plate and nation
unfoldable pub cover_on : List ℕ → List ℕ → Option Place
cover_on book line = cover_of width book (pan line) (exit_moment line) (detected_plate line) (detected_nation line)

abbrev pub is_covered : Option Place → Bool
is_covered (Some place) = true
is_covered None = false

-- an acceptance carries the agreement and period that cover it,
abbrev pub covered_by : Option Place → Verdict
covered_by (Some place) = Covered place
covered_by None = NotCovered

-- or the debit that it took
abbrev pub credit_of : Option ℕ → Verdict
credit_of (Some debit) = Credits debit
credit_of None = NoDebit

-- a debit that passed L1 to L5 and L9: L6, L7, or covered
abbrev pub debit_verdict : Bool → Option Place → Verdict
debit_verdict repeated cover = cond repeated RepeatedLine (covered_by cover)

-- L6 and L7 are for a DEB file, L8 is for a CRE file
abbrev pub file_rows : Side → Bool → Option Place → Option ℕ → List (Row Verdict)
file_rows side repeated cover took =
    ((is_debit_file side && repeated) ⇒ RepeatedLine)
    ∷ ((is_debit_file side && not (is_covered cover)) ⇒ NotCovered)
    ∷ ((is_credit_file side && not (took_debit took)) ⇒ NoDebit)
    ∷ []

-- a file of neither side has no line that passes L1
abbrev pub accepted_by : Side → Option Place → Option ℕ → Verdict
accepted_by Credit cover took = credit_of took
accepted_by Debit cover took = covered_by cover
accepted_by Neither cover took = WrongType

-- the verdict on a line that has passed L1 to L5 and L9
unfoldable pub passed_verdict : Side → Bool → Option Place → Option ℕ → Verdict
passed_verdict side repeated cover took = first_of (file_rows side repeated cover took) (accepted_by side cover took)

-- what line k takes where the marks are these
abbrev pub taken_on : Judging → List ℕ → ℕ → Option ℕ
taken_on j marks k = taken j.debits marks (line_at j.tif k)

-- L9: the station table lent has the station of line k, or none is lent
abbrev pub known_on : Judging → ℕ → Bool
known_on j k = is_known_station j.tst (line_at j.tif k)

-- the first test that line k fails before those that look at the file, the book and the debits
abbrev pub test_on : Judging → ℕ → Result (Unit {0}) Verdict
test_on j k = test_line j.side j.sender (known_on j k) (line_at j.tif k)

-- all the tests of line k in order, where the marks are these
abbrev pub all_rows : Judging → List ℕ → ℕ → List (Row Verdict)
all_rows j marks k = line_rows j.side j.sender (known_on j k) (line_at j.tif k) ++ file_rows j.side (repeated_at j.tif k) (cover_on j.book (line_at j.tif k)) (taken_on j marks k)

-- the verdict on line k where the marks are these: the first test that applies decides
unfoldable pub verdict_on : Judging → List ℕ → ℕ → Verdict
verdict_on j marks k = first_of (all_rows j marks k) (accepted_by j.side (cover_on j.book (line_at j.tif k)) (taken_on j marks k))

-- ---- the marks along the lines
-- line k passes every test before L8, in a CRE file
unfoldable pub reaches_at : Judging → ℕ → Bool
reaches_at j k = is_credit_file j.side && passes (test_on j k)

-- the marks after line k, where those before it are these
unfoldable pub marks_next : Judging → List ℕ → ℕ → List ℕ
marks_next j marks k = cond (reaches_at j k) (marks_then marks (taken_on j marks k)) marks

-- the marks before line k, and after k lines
abbrev pub marks_before : Judging → List ℕ → ℕ → List ℕ
marks_before j marks k = marks_after j.debits (line_at j.tif) (reaches_at j) marks k

-- the verdict on line k of the file
unfoldable pub verdict_at : Judging → List ℕ → ℕ → Verdict
verdict_at j marks k = verdict_on j (marks_before j marks k) k

unfoldable pub word_at : Judging → List ℕ → ℕ → ℕ
word_at j marks k = word_of (verdict_at j marks k)

-- the words of the first n lines
unfoldable pub words_of : Judging → List ℕ → ℕ → List ℕ
words_of j marks n = table_below n (word_at j marks)
