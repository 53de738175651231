-- What a call leaves: the record of each line judged holds the verdict on it, and the marks are those after the lines. Assumes nothing.
use Rattle.std.specs.Prelude.{◌≡◌, Bool, true, false, List, [], ◌∷◌, ℕ, zero, suc, ◌+◌, ◌<◌, length, drop, Err, Ok}
use Rattle.std.proofs.Math.Path.{refl, ap}
use Rattle.std.proofs.Common.{sym, ◌∙◌, not-suc-le-zero, add-one, arith, length-append}
use Rattle.std.proofs.Math.Bool.{cond}
use Rattle.std.proofs.Math.ListN.{get_or, get_or-append}
use Rattle.std.proofs.lemmas.List.{get_or_at}
use Rattle.lines.specs.BelowLaws.{below_suc, table_at}
use Rattle.debits.specs.Credits.{marks_after}
use Rattle.tif.specs.Body.{line_at}
use Rattle.verdicts.specs.Record.{record_of}
use Rattle.verdicts.specs.Verdict.{verdict_of}
use Rattle.verdicts.specs.declared.record.Record.{Record}
use Rattle.judging.specs.Judging.{marks_before, verdict_at, word_at, words_of}
use Rattle.judging.proofs.WordLaws.{word_verdict}
use Rattle.answers.specs.Told.{too_small}
use Rattle.judge.specs.Call.{Call, check_of, judging_of, lines_of, words_judged, marks_judged, summary_of, lines_to_record, is_answered, answer_of, marks_of, records_of}
use Rattle.judge.specs.CoreLaws.{words_length}
use Rattle.judge.specs.Records.{record_at, records_to}
use Rattle.judge.specs.SoundLaws.{check_shows}
use Rattle.answers.specs.Answer.{Answer}
use Rattle.answers.specs.Answer.{CallCheck}
use Rattle.answers.specs.declared.answer.Summary.{Summary}

records_long : (tif words : List ℕ) (n : ℕ) → length (records_to tif words n) ≡ n
unfolding records_to
records_long tif words zero = refl
records_long tif words (suc n) = length-append (records_to tif words n) (record_at tif words n ∷ []) ∙ rw (records_long tif words n) (add-one n)

records_at : (tif words : List ℕ) (none : Record) (n k : ℕ) → k < n → get_or (records_to tif words n) k none ≡ record_at tif words k
unfolding records_to
records_at tif words none zero k h = absurd (not-suc-le-zero h)
records_at tif words none (suc n) k h =
    below_suc k n h
    (λ e. rw e (get_or_at (records_to tif words n) (record_at tif words n) [] none n (records_long tif words n)))
    (λ l. get_or-append (records_to tif words n) (record_at tif words n ∷ []) none k (rw (records_long tif words n) l) ∙ records_at tif words none n k l)

-- what it shows that a call is answered: E1 to E6 and E8 let it pass, there is room, and what is told is the summary of the lines judged
pub record Shown (c : Call) (s : Summary) : Type 0 where
  pub sound : check_of c ≡ Ok tt
  pub roomy : too_small (summary_of c) c.room (length c.out) ≡ false
  pub told : s ≡ summary_of c

pub answered_shows : (c : Call) (s : Summary) → answer_of c ≡ Ok s → Shown c s
unfolding answer_of
answered_shows c s e = go (check_of c) refl (too_small (summary_of c) c.room (length c.out)) refl
  where
    go : (x : CallCheck) → check_of c ≡ x → (small : Bool) → too_small (summary_of c) c.room (length c.out) ≡ small → Shown c s
    go (Err f) h small t =
        let z : Err f ≡ Ok s = sym (rw h) ∙ e in
        let y : ◌≡◌ {A = ℕ} 0 1 = cc in
        absurd (omega arith)
    go (Ok tt) h true t =
        let y : ◌≡◌ {A = ℕ} 0 1 = cc in
        absurd (omega arith)
    go (Ok tt) h false t =
        let z : Ok (summary_of c) ≡ Ok s = sym (rw (h, t)) ∙ e in
        record { sound = h; roomy = t; told = cc }

module _ (c : Call) where
  -- a record for each line judged
  pub answered_lines : (s : Summary) → answer_of c ≡ Ok s → s.lines ≡ lines_of c
  unfolding summary_of words_judged
  answered_lines s e = ap (λ (x : Summary). x.lines) (answered_shows c s e).told ∙ words_length (judging_of c) c.marks (lines_of c)

  -- the record of a line is that of its verdict
  pub line_recorded : (records : List Record) (none : Record) (k : ℕ) → k < lines_to_record (answer_of c)
      → get_or (records_of c records) k none ≡ record_of (line_at c.tif k) (k + 1) (verdict_at (judging_of c) c.marks k)
  unfolding records_of record_at words_judged words_of
  line_recorded records none k h = go (answer_of c) refl
    where
      go : (a : Answer) → answer_of c ≡ a → get_or (records_of c records) k none ≡ record_of (line_at c.tif k) (k + 1) (verdict_at (judging_of c) c.marks k)
      go (Err f) e = let z : lines_to_record (answer_of c) ≡ 0 = ap lines_to_record e in absurd (omega (arith, h, z))
      go (Ok s) e =
          let n = lines_to_record (answer_of c) in
          let m : n ≡ lines_of c = ap lines_to_record e ∙ answered_lines s e in
          let sound = check_shows c (answered_shows c s e).sound in
          get_or-append (records_to c.tif (words_judged c) n) (drop n records) none k (rw (records_long c.tif (words_judged c) n) h)
          ∙ records_at c.tif (words_judged c) none n k h
          ∙ ap (record_of (line_at c.tif k) (k + 1))
          (ap verdict_of (table_at (word_at (judging_of c) c.marks) (lines_of c) k 0 (omega (arith, h, m))) ∙ word_verdict (judging_of c) c.marks k sound.booked sound.owed.few)

  pub verdict_recorded : (records : List Record) (none : Record) (k : ℕ) → k < lines_to_record (answer_of c)
      → (get_or (records_of c records) k none).verdict ≡ verdict_at (judging_of c) c.marks k
  verdict_recorded records none k h = ap (λ (x : Record). x.verdict) (line_recorded records none k h)

  -- the marks that it leaves are those after the lines that it records
  pub marks_left : marks_of c ≡ marks_before (judging_of c) c.marks (lines_to_record (answer_of c))
  unfolding marks_of marks_judged marks_after
  marks_left = go (answer_of c) refl
    where
      go : (a : Answer) → answer_of c ≡ a → cond (is_answered a) (marks_judged c) c.marks ≡ marks_before (judging_of c) c.marks (lines_to_record a)
      go (Err f) e = refl
      go (Ok s) e = ap (marks_before (judging_of c) c.marks) (sym (answered_lines s e))
