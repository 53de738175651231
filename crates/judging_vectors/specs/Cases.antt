-- What it shows of a case that its file, its book and its debits were found sound. Assumes nothing.
use Rattle.std.specs.Prelude.{◌≡◌, true, List, ℕ, ◌-◌, ◌≤◌, ◌<◌, length, take, Ok}
use Rattle.std.proofs.Common.{arith, length-take-le}
use Rattle.lines.specs.Number.{all_digits}
use Rattle.lines.specs.Rows.{line_place, most_lines}
use Rattle.passage.specs.Passage.{gross_amount}
use Rattle.tif.specs.Body.{line_at}
use Rattle.book.specs.Form.{book_sound}
use Rattle.book.specs.Layout.{width}
use Rattle.debits.specs.Form.{debits_sound}
use Rattle.debits.specs.FormLaws.{sound_is}
use Rattle.judging.specs.Steps.{Given}
use Rattle.judging.specs.Sums.{Worded}
use Rattle.tif.specs.Columns.{tif_layout}
use Rattle.tif.specs.Acceptance.{acceptance_of}
use Rattle.tif.specs.JudgedLaws.{judged_shows}
use Rattle.tif.specs.declared.acceptance.Whole.{Whole}

-- a file of n lines that is to be judged
pub record Ready (tif : List ℕ) (n : ℕ) : Type 0 where
  pub lined : line_place tif_layout n ≤ length tif
  pub few : n ≤ most_lines
  pub digits : (k : ℕ) → k < n → all_digits (gross_amount (line_at tif k)) ≡ true

pub ready_is : (name names tif : List ℕ) (w : Whole) → acceptance_of name names tif ≡ Ok w → Ready tif w.lines
ready_is name names tif w e =
    let f = judged_shows name names tif w e in
    record { lined = omega (arith, f.framed.counted.long); few = f.framed.counted.few; digits = λ k h. (f.each k h).digits }

pub ready_worded : (tif words : List ℕ) (n : ℕ) → length words ≡ n → Ready tif n → Worded tif words
ready_worded tif words n e r = record { lined = rw e r.lined; few = rw e r.few; digits = λ k h. r.digits k (rw e at h) }

pub given_is : (book debits marks tif : List ℕ) (n : ℕ) → book_sound width book ≡ true → debits_sound debits marks ≡ true → Ready tif n → Given book debits marks tif n
given_is book debits marks tif n b d r =
    let s = sound_is debits marks d in
    record { booked = b; owed = omega (arith, s.long); few = s.few; lined = r.lined }

-- the front of the words, as many as lines
pub front_is : (words : List ℕ) (n : ℕ) → n ≤ length words → length (take (n - 0) words) ≡ n
front_is words n h = omega (arith, length-take-le (n - 0) words (omega arith))
