-- From the words and the records that were filled by them to what the call ensures. Assumes nothing.
use Rattle.std.specs.Prelude.{◌≡◌, ℕ, zero, suc, ◌+◌, ◌-◌, ◌<◌, ◌≤◌, Bool, true, false, List, [], ◌∷◌, ◌++◌, length, take, drop, slice_index, slice_index_or, Err, Ok}
use Rattle.std.specs.Prelude.{refl}
use Rattle.std.proofs.Math.Path.{ap}
use Rattle.std.proofs.Common.{◌∙◌, arith, length-append, take_at, length-take-le}
use Rattle.std.proofs.Math.Nat.{sub-zero}
use Rattle.std.proofs.Math.ListN.{get_or-append}
use Rattle.lines.specs.Splice.{splice}
use Rattle.lines.specs.SpliceLaws.{splice_zero, splice_length}
use Rattle.verdicts.specs.Record.{record_of}
use Rattle.verdicts.specs.Verdict.{verdict_of}
use Rattle.verdicts.specs.declared.record.Record.{Record}
use Rattle.tif.specs.Body.{line_at}
use Rattle.answers.specs.Told.{too_small}
use Rattle.judge.specs.Call.{Call, check_of, words_judged, summary_of, lines_to_record, answer_of, words_kept, records_of, WordsJudged, Judged}
use Rattle.judge.specs.Core.{words_tried, CallTried}
use Rattle.judge.specs.Records.{LineKnown, record_at, records_to}
use Rattle.answers.specs.Answer.{Answer}
use Rattle.answers.specs.Answer.{CallCheck}

-- the words that are recorded are those of the lines judged
recorded_words : (c : Call) (z : List ℕ) (k : ℕ) → k < lines_to_record (answer_of c) → slice_index (splice z 0 (words_tried c)) k ≡ slice_index (words_judged c) k
unfolding answer_of words_tried summary_of
recorded_words c z k h = go (check_of c) refl (too_small (summary_of c) c.room (length c.out)) refl
  where
    go : (x : CallCheck) → check_of c ≡ x → (small : Bool) → too_small (summary_of c) c.room (length c.out) ≡ small → slice_index (splice z 0 (words_tried c)) k ≡ slice_index (words_judged c) k
    go (Err f) e small t =
        let n : lines_to_record (answer_of c) ≡ 0 = rw e in
        absurd (omega (arith, h, n))
    go (Ok tt) e true t =
        let n : lines_to_record (answer_of c) ≡ 0 = rw (e, t) in
        absurd (omega (arith, h, n))
    go (Ok tt) e false t =
        let n : lines_to_record (answer_of c) ≡ length (words_judged c) = rw (e, t) in
        let w : words_tried c ≡ words_judged c = rw e in
        ap (λ (l : List ℕ). slice_index (splice z 0 l) k) w ∙ ap (λ (l : List ℕ). slice_index l k) (splice_zero z (words_judged c)) ∙ get_or-append (words_judged c) _ 0 k (omega (arith, h, n))

-- the same words give the same records
same_records : (tif ws vs : List ℕ) (n : ℕ) → ((k : ℕ) → k < n → slice_index ws k ≡ slice_index vs k) → records_to tif ws n ≡ records_to tif vs n
unfolding records_to record_at
same_records tif ws vs zero same = refl
same_records tif ws vs (suc n) same =
    ap (λ (w : ℕ). records_to tif ws n ++ (record_of (line_at tif n) (n + 1) (verdict_of w) ∷ [])) (same n (omega arith))
    ∙ ap (λ (rs : List Record). rs ++ (record_at tif vs n ∷ [])) (same_records tif ws vs n (λ k h. same k (omega (arith, h))))

module _ (c : Call) (z : List ℕ) (r : Answer) (ms ws os : List ℕ) (n : ℕ) (e : CallTried c z r ms ws os) (en : n ≡ lines_to_record r) where
  -- there is room for the records, and each of their lines has its word
  pub room_to_fill : (n ≤ c.room) × ((k : ℕ) → k < n → LineKnown c.tif ws k)
  room_to_fill = (omega (arith, e.room_for, en), λ k h. e.known k (omega (arith, h, en)))

  pub judged_from_words : (ys rs : List Record) → rs ≡ records_to c.tif ws n ++ drop n ys → Judged c ys r ms rs os
  unfolding records_of
  judged_from_words ys rs f =
      let m : n ≡ lines_to_record (answer_of c) = en ∙ ap lines_to_record e.answer in
      let w : (k : ℕ) → k < n → slice_index ws k ≡ slice_index_or (words_judged c) k 0 = λ k h. ap (λ (l : List ℕ). slice_index l k) e.words_then ∙ recorded_words c z k (omega (arith, h, m)) in
      record {
        answer = e.answer;
        marks_then = e.marks_then;
        out_then = e.out_then;
        records_then = f ∙ ap (λ (l : List Record). l ++ drop n ys) (same_records c.tif ws (words_judged c) n w) ∙ ap (λ (i : ℕ). records_to c.tif (words_judged c) i ++ drop i ys) m;
      }

-- ---- the words that are kept
-- of the words that were tried, those of the lines to record are kept
kept_words : (c : Call) (z : List ℕ) → take (lines_to_record (answer_of c)) (splice z 0 (words_tried c)) ≡ words_kept c
unfolding answer_of words_tried summary_of words_kept
kept_words c z = go (check_of c) refl (too_small (summary_of c) c.room (length c.out)) refl
  where
    go : (x : CallCheck) → check_of c ≡ x → (small : Bool) → too_small (summary_of c) c.room (length c.out) ≡ small → take (lines_to_record (answer_of c)) (splice z 0 (words_tried c)) ≡ words_kept c
    go (Err f) e small t = rw e
    go (Ok tt) e true t = rw (e, t)
    go (Ok tt) e false t = rw (e, t) (ap (take (length (words_judged c))) (splice_zero z (words_judged c)) ∙ take_at (words_judged c) _ (length (words_judged c)) refl)

module _ (c : Call) (z : List ℕ) (r : Answer) (ms ws os : List ℕ) (n : ℕ) (e : CallTried c z r ms ws os) (en : n ≡ lines_to_record r) where
  -- as many were tried
  pub words_tried_lem : n ≤ length ws
  words_tried_lem = go n refl
    where
      go : (m : ℕ) → n ≡ m → n ≤ length ws
      go zero f = omega (arith, f)
      go (suc m) f = omega (arith, f, (e.known m (omega (arith, f, en))).worded)

  pub words_judged_lem : (words words' : List ℕ) → length (take (n - 0) ws) ≤ length words → words' ≡ splice words 0 (take (n - 0) ws) → WordsJudged c words r ms words' os
  words_judged_lem words words' fits f =
      let k : take (n - 0) ws ≡ words_kept c = rw sub-zero (ap (λ (m : ℕ). take m ws) (en ∙ ap lines_to_record e.answer) ∙ ap (take (lines_to_record (answer_of c))) e.words_then ∙ kept_words c z) in
      let l : n ≤ length words' = omega (arith, ap length (f ∙ splice_zero words (take (n - 0) ws)) ∙ length-append (take (n - 0) ws) (drop (length (take (n - 0) ws)) words), ap (λ (m : ℕ). length (take m ws)) (sub-zero n) ∙ length-take-le n ws words_tried_lem) in
      record {
        answer = e.answer;
        marks_then = e.marks_then;
        out_then = e.out_then;
        words_then = f ∙ ap (splice words 0) k;
        long = ap length f ∙ splice_length words 0 (take (n - 0) ws) (omega (arith, fits));
        known = λ i h. record { worded = omega (arith, h, en, l); lined = (e.known i h).lined };
      }
