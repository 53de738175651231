-- Of the book a judged line takes only its cover: books that differ only in lease references give every line the same verdict and word, and the same marks.
-- Assumes nothing.
use Rattle.std.specs.Prelude.{◌≡◌, ℕ, ◌+◌, ◌≤◌, ◌<◌, set, Option}
use Rattle.std.proofs.Math.Path.{refl, ap}
use Rattle.std.proofs.Common.{sym, ◌∙◌, length-set, get_or-set_other}
use mathlib.Core.List.{List, ◌++◌}
use Rattle.lines.specs.BelowSame.{table_same}
use Rattle.lines.specs.FirstOf.{first_of}
use Rattle.passage.specs.Passage.{pan, exit_moment, detected_plate, detected_nation}
use Rattle.tif.specs.Body.{line_at}
use Rattle.book.specs.Layout.{width, agreements, body_place}
use Rattle.cover.specs.Lease.{SameButLeases}
use Rattle.cover.proofs.LeaseCoverLaws.{same_cover}
use Rattle.cover.specs.declared.cover.Place.{Place}
use Rattle.verdicts.specs.LineTests.{line_rows}
use Rattle.verdicts.specs.Verdict.{word_of}
use Rattle.judging.specs.Judging.{Judging, judging, repeated_at, cover_on, file_rows, accepted_by, taken_on, known_on, verdict_on, reaches_at, marks_before, verdict_at, word_at, words_of}

-- a book and the same with another byte in the lease reference of agreement i, counted from 0: they differ in nothing else
pub lease_byte : (w : ℕ) (book : List ℕ) (i k byte : ℕ) → i < agreements book → body_place w book i ≤ k → k < body_place w book i + 12 → SameButLeases w book (set book k byte)
lease_byte w book i k byte known from to = record {
  long = sym (length-set book k byte);
  alike = λ j outside. sym (get_or-set_other book k j byte 0 (λ e. outside i known (rw e from) (rw e to)));
}

-- the same judging by another book
abbrev pub judging_by : List ℕ → Judging → Judging
judging_by book j = judging j.side j.sender book j.debits j.tif j.tst

module _ (j : Judging) (b : List ℕ) (s : SameButLeases width j.book b) where
  same_cover_on : (line : List ℕ) → cover_on j.book line ≡ cover_on b line
  unfolding cover_on
  same_cover_on line = same_cover width j.book b s (pan line) (exit_moment line) (detected_plate line) (detected_nation line)

  same_verdict_on : (marks : List ℕ) (k : ℕ) → verdict_on j marks k ≡ verdict_on (judging_by b j) marks k
  unfolding verdict_on
  same_verdict_on marks k =
      let line = line_at j.tif k in
      ap
      (λ (cover : Option Place). first_of (line_rows j.side j.sender (known_on j k) line ++ file_rows j.side (repeated_at j.tif k) cover (taken_on j marks k)) (accepted_by j.side cover (taken_on j marks k)))
      (same_cover_on line)

  module _ (marks : List ℕ) where
    -- which lines reach L8 rests on no book
    pub same_marks : (k : ℕ) → marks_before j marks k ≡ marks_before (judging_by b j) marks k
    unfolding reaches_at
    same_marks k = refl

    pub same_verdict : (k : ℕ) → verdict_at j marks k ≡ verdict_at (judging_by b j) marks k
    unfolding verdict_at
    same_verdict k = same_verdict_on (marks_before j marks k) k ∙ ap (λ (m : List ℕ). verdict_on (judging_by b j) m k) (same_marks k)

    pub same_words : (n : ℕ) → words_of j marks n ≡ words_of (judging_by b j) marks n
    unfolding words_of word_at
    same_words n = table_same (word_at j marks) (word_at (judging_by b j) marks) n (λ k h. ap word_of (same_verdict k))
