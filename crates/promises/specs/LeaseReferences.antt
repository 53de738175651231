-- No byte of a lease reference reaches any answer: two books that differ only in lease references give the same everything.
-- For every call, sound or not, and for every book that differs from the lent one only in lease references: the call with that book in
-- its place has the same answer, the same marks and output afterwards, the same records for every record table, and the same words and verdicts.
-- So two results that the contract of `judge` allows, with the one book and with the other, are equal. Assumes nothing.
use Rattle.std.specs.Prelude.{◌≡◌, ℕ, ◌+◌, ◌≤◌, ◌<◌, length, set}
use Rattle.std.proofs.Common.{sym, ◌∙◌}
use Rattle.std.proofs.Math.Path.{ap}
use Rattle.std.proofs.Math.Bool.{cond}
use mathlib.Core.List.{List, ◌++◌}
use Rattle.std.proofs.Math.ListN.{drop}
use Rattle.lines.specs.Splice.{splice}
use Rattle.book.specs.Layout.{width, agreements, body_place}
use Rattle.cover.specs.Lease.{SameButLeases}
use Rattle.cover.specs.LeaseLaws.{same_sound}
use Rattle.tic_text.specs.Text.{Tic, tic_text}
use Rattle.verdicts.specs.declared.record.Record.{Record}
use Rattle.judging.specs.Judging.{verdict_at}
use Rattle.answers.specs.Told.{summary_for, head_of, sums_of}
use Rattle.judge.specs.Call.{Call, call_of, check_of, file_of, judging_of, lines_of, words_judged, marks_judged, summary_of, tic_of_call, answer_sound, answer_for, answer_of, is_answered, marks_of, out_of, lines_to_record, records_of, Judged}
use Rattle.answers.specs.Fault.{check_lent, check_call}
use Rattle.answers.specs.Listing.{tic_of}
use Rattle.judge.specs.Records.{records_to}
use Rattle.answers.specs.Answer.{Answer}
use Rattle.answers.specs.Answer.{CallCheck}
use Rattle.answers.specs.declared.answer.Summary.{Summary}
use Rattle.promises.specs.LeaseReferencesLaws.{lease_byte, same_marks, same_verdict, same_words}

-- the same call with another book lent
abbrev pub with_book : Call → List ℕ → Call
with_book c book = call_of c.name c.received c.card c.names book c.debits c.marks c.tif c.tst c.room c.out

-- everything that a call gives is the same for two calls
pub record SameEverything (c d : Call) : Type 0 where
  pub answer : answer_of c ≡ answer_of d
  pub marks : marks_of c ≡ marks_of d
  pub out : out_of c ≡ out_of d
  pub records : (table : List Record) → records_of c table ≡ records_of d table
  pub words : words_judged c ≡ words_judged d
  pub verdicts : (k : ℕ) → verdict_at (judging_of c) c.marks k ≡ verdict_at (judging_of d) d.marks k

module _ (c : Call) (b : List ℕ) (s : SameButLeases width c.book b) where
  -- E1 to E6 and E8
  check_same : check_of c ≡ check_of (with_book c b)
  unfolding check_call check_lent
  check_same = rw (same_sound width c.book b s)

  words_same : words_judged c ≡ words_judged (with_book c b)
  unfolding words_judged
  words_same = same_words (judging_of c) b s c.marks (lines_of c)

  summary_same : summary_of c ≡ summary_of (with_book c b)
  unfolding summary_of
  summary_same = ap (summary_for (file_of c) c.tif) words_same

  answer_same : answer_of c ≡ answer_of (with_book c b)
  unfolding answer_of
  answer_same =
      ap (λ (check : CallCheck). answer_for check (answer_sound (summary_of c) c.room (length c.out))) check_same
      ∙ ap (λ (t : Summary). answer_for (check_of (with_book c b)) (answer_sound t c.room (length c.out))) summary_same

  tic_same : tic_of_call c ≡ tic_of_call (with_book c b)
  unfolding tic_of_call
  tic_same =
      ap (λ (words : List ℕ). tic_of c.name c.received c.card c.tif words (head_of (summary_of c)) (sums_of (summary_of c))) words_same
      ∙ ap (λ (t : Summary). tic_of c.name c.received c.card c.tif (words_judged (with_book c b)) (head_of t) (sums_of t)) summary_same

  marks_same : marks_of c ≡ marks_of (with_book c b)
  unfolding marks_of marks_judged
  marks_same =
      ap (λ (a : Answer). cond (is_answered a) (marks_judged c) c.marks) answer_same
      ∙ ap (λ (marks : List ℕ). cond (is_answered (answer_of (with_book c b))) marks c.marks) (same_marks (judging_of c) b s c.marks (lines_of c))

  out_same : out_of c ≡ out_of (with_book c b)
  unfolding out_of
  out_same =
      ap (λ (a : Answer). cond (is_answered a) (splice c.out 0 (tic_text (tic_of_call c))) c.out) answer_same
      ∙ ap (λ (t : Tic). cond (is_answered (answer_of (with_book c b))) (splice c.out 0 (tic_text t)) c.out) tic_same

  records_same : (table : List Record) → records_of c table ≡ records_of (with_book c b) table
  unfolding records_of
  records_same table =
      ap (λ (a : Answer). records_to c.tif (words_judged c) (lines_to_record a) ++ drop (lines_to_record a) table) answer_same
      ∙ ap (λ (words : List ℕ). records_to c.tif words (lines_to_record (answer_of (with_book c b))) ++ drop (lines_to_record (answer_of (with_book c b))) table) words_same

  pub same_everything : SameEverything c (with_book c b)
  same_everything = record {
    answer = answer_same;
    marks = marks_same;
    out = out_same;
    records = records_same;
    words = words_same;
    verdicts = same_verdict (judging_of c) b s c.marks;
  }

  -- what the contract of the call allows with the lent book and with b
  pub same_results : {records : List Record} {r r₂ : Answer} {marks' marks₂' : List ℕ} {records' records₂' : List Record} {out' out₂' : List ℕ}
      → Judged c records r marks' records' out' → Judged (with_book c b) records r₂ marks₂' records₂' out₂'
      → (r ≡ r₂) × (marks' ≡ marks₂') × (records' ≡ records₂') × (out' ≡ out₂')
  same_results {records = records} x y = (
    x.answer ∙ answer_same ∙ sym y.answer,
    x.marks_then ∙ marks_same ∙ sym y.marks_then,
    x.records_then ∙ records_same records ∙ sym y.records_then,
    x.out_then ∙ out_same ∙ sym y.out_then,
  )

-- one byte of a lease reference, the first 12 bytes of a body, changed to anything: the same everything
pub lease_byte_free : (c : Call) (i k byte : ℕ) → i < agreements c.book → body_place width c.book i ≤ k → k < body_place width c.book i + 12
    → SameEverything c (with_book c (set c.book k byte))
lease_byte_free c i k byte known from to = same_everything c (set c.book k byte) (lease_byte width c.book i k byte known from to)
