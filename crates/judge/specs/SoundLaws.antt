-- What is known of a call that E1 to E6 and E8 let pass, and of its file where it is judged line by line. Assumes nothing.
use Rattle.std.specs.Prelude.{◌≡◌, ℕ, ◌+◌, ◌*◌, ◌<◌, ◌≤◌, Bool, true, false, not, List, [], ◌∷◌, length, drop, ◌==◌, Ok, Err}
use Rattle.std.specs.Prelude.{refl}
use Rattle.std.proofs.Common.{ap, arith, eqb-true}
use Rattle.std.proofs.lemmas.Bool.{not-false}
use Rattle.lines.specs.BelowLaws.{table_at}
use Rattle.lines.specs.BoolLaws.{and_left}
use Rattle.lines.specs.Class.{all_of}
use Rattle.lines.specs.FirstOf.{Row, ◌⇒◌, first_of}
use Rattle.lines.specs.Rows.{line_place, most_lines}
use Rattle.lines.specs.RowsLaws.{line_ends}
use Rattle.lines.specs.declared.class.Class.TheVariants.{DigitOrCapital}
use Rattle.moment.specs.Moment.{is_moment}
use Rattle.moment.specs.MomentLaws.{moment_shows}
use Rattle.passage.specs.Passage.{line_width}
use Rattle.tif.specs.Columns.{tif_layout}
use Rattle.tif.specs.Judged.{JudgedFile}
use Rattle.tif.specs.JudgedLaws.{judged_shows}
use Rattle.tif.specs.Name.{is_name}
use Rattle.tif.specs.NameLaws.{name_shows}
use Rattle.tif.specs.Received.{names_whole}
use Rattle.tif.specs.declared.acceptance.Whole.{Whole}
use Rattle.tst.specs.Form.{is_lent, table_sound}
use Rattle.book.specs.Form.{book_sound}
use Rattle.book.specs.Layout.{width}
use Rattle.debits.specs.Form.{debits_sound, Sound}
use Rattle.debits.specs.FormLaws.{sound_is}
use Rattle.verdicts.specs.Verdict.{word_of, word_number}
use Rattle.verdicts.specs.VerdictLaws.{word_number_lem}
use Rattle.verdicts.specs.declared.verdict.Verdict.{Verdict}
use Rattle.judging.specs.Judging.{Judging, marks_before, words_of, word_at, verdict_at}
use Rattle.judging.proofs.WordLaws.{unlent_number}
use Rattle.judging.specs.Sums.{Worded}
use Rattle.judge.specs.Call.{Call, check_of, file_of}
use Rattle.answers.specs.Card.{verdicts_in_use, is_card}
use Rattle.judge.specs.Core.{LinesReady}
use Rattle.answers.specs.Fault.{lent_rows, check_lent, call_rows, check_call}
use Rattle.judge.specs.CoreLaws.{words_length}
use Rattle.answers.specs.Listing as Listing
use Rattle.answers.specs.Listing.{number_at}
use Rattle.answers.specs.Answer.{CallCheck}
use Rattle.answers.specs.declared.answer.CallFault.{CallFault}

-- a row that names a fault was not the one
cleared : (b : Bool) (f : CallFault) (rows : List (Row CallCheck)) (other : CallCheck) → first_of ((b ⇒ Err f) ∷ rows) other ≡ Ok tt → (b ≡ false) × (first_of rows other ≡ Ok tt)
unfolding first_of
cleared true f rows other e = let z : ◌≡◌ {A = ℕ} 0 1 = cc in absurd (omega arith)
cleared false f rows other e = (refl, e)

last_row : (other : CallCheck) → first_of [] other ≡ Ok tt → other ≡ Ok tt
unfolding first_of
last_row other e = e

-- a real moment has fourteen bytes
moment_long : (s : List ℕ) → is_moment s ≡ true → length s ≡ 14
moment_long s e = (moment_shows s e).0

card_long : (lent : Bool) (card : List ℕ) → is_card lent card ≡ true → length card ≡ verdicts_in_use lent * 2
unfolding is_card
card_long lent card e = eqb-true (length card) (verdicts_in_use lent * 2) (and_left (length card == verdicts_in_use lent * 2) (all_of DigitOrCapital card) e)

pub record CallSound (c : Call) : Type 0 where
  pub name_form : is_name c.name ≡ true
  pub moment_real : is_moment c.received ≡ true
  pub card_form : is_card (is_lent c.tst) c.card ≡ true
  pub named : length c.name ≡ 35
  pub dated : length c.received ≡ 14
  pub carded : length c.card ≡ verdicts_in_use (is_lent c.tst) * 2
  pub booked : book_sound width c.book ≡ true
  pub owed : Sound c.debits c.marks
  pub tabled : table_sound c.tst ≡ true

pub check_shows : (c : Call) → check_of c ≡ Ok tt → CallSound c
unfolding check_call check_lent
check_shows c e =
    let t = call_rows c.name c.received c.card c.names c.tst in
    let u = lent_rows c.book c.debits c.marks c.tst in
    let a = cleared (not (is_name c.name)) CallFault.FileName (drop 1 t) (first_of u (Ok tt)) e in
    let b = cleared (not (is_moment c.received)) CallFault.ReceptionMoment (drop 2 t) (first_of u (Ok tt)) a.1 in
    let d = cleared (not (is_card (is_lent c.tst) c.card)) CallFault.CodeCard (drop 3 t) (first_of u (Ok tt)) b.1 in
    let f = cleared (not (names_whole c.names)) CallFault.ReceivedNames [] (first_of u (Ok tt)) d.1 in
    let g = cleared (not (book_sound width c.book)) CallFault.Book (drop 1 u) (Ok tt) (last_row (first_of u (Ok tt)) f.1) in
    let h = cleared (not (debits_sound c.debits c.marks)) CallFault.OpenDebits (drop 2 u) (Ok tt) g.1 in
    let t' = cleared (not (table_sound c.tst)) CallFault.StationTable [] (Ok tt) h.1 in
    let n = not-false (is_name c.name) a.0 in
    let m = not-false (is_moment c.received) b.0 in
    let k = not-false (is_card (is_lent c.tst) c.card) d.0 in
    record {
      name_form = n;
      moment_real = m;
      card_form = k;
      named = (name_shows c.name n).long;
      dated = moment_long c.received m;
      carded = card_long (is_lent c.tst) c.card k;
      booked = not-false (book_sound width c.book) g.0;
      owed = sound_is c.debits c.marks (not-false (debits_sound c.debits c.marks) h.0);
      tabled = not-false (table_sound c.tst) t'.0;
    }

-- a verdict's word has its number, one of those in use
number_known : (v : Verdict) → word_number (word_of v) ≤ 9
number_known (Verdict.Covered place) = omega arith
number_known (Verdict.Credits debit) = omega arith
number_known Verdict.WrongType = omega arith
number_known Verdict.FieldOutOfForm = omega arith
number_known Verdict.OtherActor = omega arith
number_known Verdict.UnknownVehicle = omega arith
number_known Verdict.PlateOutOfForm = omega arith
number_known Verdict.RepeatedLine = omega arith
number_known Verdict.NotCovered = omega arith
number_known Verdict.NoDebit = omega arith
number_known Verdict.UnknownStation = omega arith

verdict_known : (j : Judging) (marks : List ℕ) (k : ℕ) → word_number (word_of (verdict_at j marks k)) ≤ verdicts_in_use (is_lent j.tst)
unfolding verdict_at
verdict_known j marks k = go (is_lent j.tst) refl
  where
    go : (lent : Bool) → is_lent j.tst ≡ lent → word_number (word_of (verdict_at j marks k)) ≤ verdicts_in_use lent
    go true e = number_known (verdict_at j marks k)
    go false e = omega (arith, word_number_lem (verdict_at j marks k), unlent_number j (marks_before j marks k) k e)

words_known : (j : Judging) (marks : List ℕ) (n k : ℕ) → k < n → number_at (words_of j marks n) k ≤ verdicts_in_use (is_lent j.tst)
unfolding words_of word_at
words_known j marks n k h = rw (table_at (word_at j marks) n k 0 h) (verdict_known j marks k)

-- a file that is judged line by line
module _ (c : Call) (s : CallSound c) (w : Whole) (file : file_of c ≡ Ok w) where
  pub judged : JudgedFile c.name c.names c.tif w
  judged = judged_shows c.name c.names c.tif w file

  pub lines_few : w.lines ≤ most_lines
  lines_few = judged.framed.counted.few

  lines_there : line_place tif_layout w.lines ≤ length c.tif
  lines_there = omega (arith, judged.framed.counted.long)

  pub lines_ready : (words : List ℕ) → 9999 ≤ length words → LinesReady c.name c.book c.debits c.marks c.tif c.tst w.lines words
  lines_ready words room =
      record {
        named = s.named;
        given = record { booked = s.booked; owed = omega (arith, s.owed.long); few = s.owed.few; lined = lines_there };
        tabled = s.tabled;
        few = lines_few;
        room = omega (arith, lines_few, room);
      }

  -- words as many as lines can be summed
  pub sums_ready : (words : List ℕ) → length words ≡ w.lines → Worded c.tif words
  sums_ready words e =
      record {
        lined = rw e lines_there;
        few = rw e lines_few;
        digits = λ k h. (judged.each k (omega (arith, e))).digits;
      }

  -- line k is there
  pub line_there : (k : ℕ) → k < w.lines → line_place tif_layout k + line_width ≤ length c.tif
  line_there k h = omega (arith, line_ends tif_layout w.lines k h, lines_there)

  -- the words of the file can be listed
  pub list_ready : (j : Judging) → j.tst ≡ c.tst → Listing.Worded c.tif c.card (words_of j c.marks w.lines)
  list_ready j same =
      let e = words_length j c.marks w.lines in
      record {
        lined = λ k h. line_there k (omega (arith, e));
        known = λ k h. omega (arith, words_known j c.marks w.lines k (omega (arith, e)), ap (λ (t : List ℕ). verdicts_in_use (is_lent t)) same, s.carded);
      }
