-- The TIC of a call that E1 to E6 and E8 let pass is the text of sound values. Assumes nothing.
use Rattle.std.specs.Prelude.{◌≡◌, Bool, ◌&&◌, ◌||◌, cond, List, [], ◌∷◌, ◌++◌, get_or, take, drop, leb, ltb, Ok, Err}
use Rattle.std.proofs.Math.Path.{refl, ap}
use Rattle.std.proofs.Common.{sym, ◌∙◌, get_or-take}
use Rattle.std.proofs.Math.Bool.{true, false, not}
use Rattle.std.proofs.lemmas.Bool.{false≢true}
use Prim.Native.Nat.{ℕ, zero, suc, ◌+◌, ◌-◌, ◌*◌, ◌^◌, ◌≤◌, ◌<◌}
use native.Mathlib.Omega.{arith}
use Rattle.std.proofs.Math.ListN.{length}
use Rattle.std.proofs.Math.Seq.{length-take-le}
use Rattle.std.proofs.Math.Dec.{eqb}
use borrow.Author.Tests.{eq-eqb, eqb-false, lt-ltb, le-ltb, le-leb}
use Rattle.lines.specs.Below.{sum_below, table_below}
use Rattle.lines.specs.BelowLaws.{table_at}
use Rattle.lines.specs.BelowSame.{join_same, sum_same}
use Rattle.lines.specs.BoolLaws.{or_true_right, and_right}
use Rattle.lines.specs.Class.{all_bytes, all_of}
use Rattle.lines.specs.ClassLaws.{all_of_part}
use Rattle.lines.specs.FirstOf.{first_of}
use Rattle.lines.specs.Number.{all_digits, number_of}
use Rattle.lines.specs.Rows.{most_lines}
use Rattle.lines.specs.declared.class.Class.TheVariants.{DigitOrCapital}
use Rattle.passage.specs.Passage.{gross_amount}
use Rattle.tif.specs.Acceptance.{Acceptance}
use Rattle.tif.specs.Body.{line_at, amount_at, body_total}
use Rattle.tif.specs.Every.{every}
use Rattle.tif.specs.Judged.{SoundLine, JudgedFile}
use Rattle.tif.specs.NameLaws.{name_shows}
use Rattle.tif.specs.PartLaws.{part_part}
use Rattle.tif.specs.Side.{side_of, is_sided}
use Rattle.tif.specs.declared.acceptance.FileFault.{FileFault}
use Rattle.tif.specs.declared.acceptance.Whole.{Whole}
use Rattle.tif.specs.declared.side.Side.{Side}
use Rattle.tic.specs.FeedLaws.{feed_free}
use Rattle.tic_text.specs.Pieces.{joined}
use Rattle.tic_parts.specs.Reading.{acceptance_fits, head_agrees, sums_fit}
use Rattle.tic.specs.Sound.{not_feed, line_sound, code_sound, amount_of, Sound}
use Rattle.tic_text.specs.Text.{line_feed, header_text, listed_text, footer_text, listed_at, listed_count, tic_text}
use Rattle.tic.specs.RenderedLaws.{wide}
use Rattle.tic_text.specs.TextLaws.{part_length, tic_length_lem}
use Rattle.tic_text.specs.declared.values.TicHead.{TicHead}
use Rattle.tic_text.specs.declared.values.TicSums.{TicSums}
use Rattle.verdicts.specs.Verdict.{verdict_number, word_number}
use Rattle.verdicts.specs.VerdictLaws.{word_number_lem}
use Rattle.judging.specs.Judging.{verdict_at, word_at, words_of}
use Rattle.judging.specs.Sums.{is_accepted, is_counted, count_of, total_of}
use Rattle.judging.specs.SumsLaws.{counts_add, total_within}
use Rattle.answers.specs.Answer.{answer_code}
use Rattle.answers.specs.Told.{judged_answer, file_answer, head_of, sums_of}
use Rattle.judge.specs.Call.{Call, check_of, file_of, judging_of, lines_of, lines_to_judge, words_judged, summary_of, tic_of_call}
use Rattle.tst.specs.Form.{is_lent}
use Rattle.answers.specs.Card.{verdicts_in_use, is_card, code_of}
use Rattle.judge.specs.CoreLaws.{words_length}
use Rattle.answers.specs.Listing.{number_at, refused_at, Worded}
use Rattle.judge.specs.SoundLaws.{CallSound, check_shows, judged, list_ready}
use Rattle.answers.specs.declared.answer.FileAnswer.{FileAnswer}
use Rattle.promises.specs.RefusalsLaws.{placed, refused_total, none_accepted}
use Rattle.promises.specs.Written.{refusal_of, line_shown, code_shown, values_of_tic}

-- ---- one text
-- a TIC lists no more of a line than its columns 1 to 809
pub same_text : (c : Call) → tic_text (tic_of_call c) ≡ tic_text (values_of_tic c)
unfolding tic_text tic_of_call listed_at listed_text
same_text c =
    let v = values_of_tic c in
    ap (λ (l : List ℕ). header_text v.receiver v.stem v.moment v.head ++ l ++ footer_text v.sums)
    (join_same (listed_at (tic_of_call c)) (listed_at v) (listed_count v)
    (λ j h. ap (λ (l : List ℕ). joined ((49 ∷ []) ∷ l ∷ v.code j ∷ line_feed ∷ [])) (sym (part_part 808 1 809 0 (line_at c.tif (refusal_of c j)) (omega arith)))))

-- ---- the parts of sound values
module _ (line : List ℕ) (s : SoundLine line) where
  line_shown_lem : line_sound (take 809 (drop 0 line)) ≡ true
  unfolding line_sound every
  line_shown_lem =
      let l : length (take 809 line) ≡ 809 = length-take-le 809 line (omega (arith, s.long)) in
      let a : eqb (length (take 809 line)) 809 ≡ true = eq-eqb (length (take 809 line)) 809 l in
      let b : eqb (get_or (take 809 line) 0 0) 49 ≡ true = eq-eqb (get_or (take 809 line) 0 0) 49 (get_or-take 809 line 0 0 (omega arith) ∙ s.first) in
      let d : all_bytes not_feed (take 809 line) ≡ true = feed_free line 809 s.long s.feed in
      let e : all_digits (gross_amount (take 809 line)) ≡ true = ap all_digits (part_part 11 136 809 0 line (omega arith)) ∙ s.digits in
      rw (a, b, d, e)

-- the code of a verdict number on a card in form
code_shown_lem : (lent : Bool) (card : List ℕ) (n : ℕ) → is_card lent card ≡ true → 1 ≤ n → n * 2 ≤ length card → code_sound (code_of card n) ≡ true
unfolding code_sound code_of every is_card
code_shown_lem lent card n f from to =
    let w : n * 2 + 1 - (n * 2 - 1) ≡ 2 = omega arith in
    let part : List ℕ = take (n * 2 + 1 - (n * 2 - 1)) (drop (n * 2 - 1 - 1) card) in
    let a : eqb (length part) 2 ≡ true = eq-eqb (length part) 2 (rw w (part_length (n * 2 - 1 - 1) 2 card (omega arith))) in
    let b : all_of DigitOrCapital part ≡ true = all_of_part DigitOrCapital card (n * 2 - 1 - 1) (n * 2 + 1 - (n * 2 - 1)) (and_right (eqb (length card) (verdicts_in_use lent * 2)) (all_of DigitOrCapital card) f) in
    rw (a, b)

-- ---- counts that agree with the acceptance
abbrev head_with : ℕ → Side → ℕ → ℕ → TicHead
head_with code side x y = record { acceptance = code; side = side; accepted = record { 0 = x }; rejected = record { 0 = y } }

agrees_from : (h : TicHead) (n : ℕ) → h.rejected.0 ≡ n → h.accepted.0 + h.rejected.0 ≤ most_lines → acceptance_fits h ≡ true → head_agrees h n ≡ true
unfolding head_agrees every
agrees_from h n e few fits =
    let a : eqb h.rejected.0 n ≡ true = eq-eqb h.rejected.0 n e in
    let b : leb (h.accepted.0 + h.rejected.0) most_lines ≡ true = le-leb (h.accepted.0 + h.rejected.0) most_lines few in
    rw (a, b, fits)

judged_fits : (side : Side) (x y : ℕ) → is_sided side ≡ true → acceptance_fits (head_with (answer_code (judged_answer y)) side x y) ≡ true
unfolding acceptance_fits first_of judged_answer
judged_fits side x y s = go (eqb y 0) refl
  where
    go : (b : Bool) → eqb y 0 ≡ b → acceptance_fits (head_with (answer_code (cond b FileAnswer.Accepted FileAnswer.PartlyAccepted)) side x y) ≡ true
    go true e = rw (s, e)
    go false e = rw (s, lt-ltb 0 y (let n = eqb-false y 0 e in omega (arith, n)))

-- 02 to 05, with all zero
whole_fits : (code : ℕ) (side : Side) → 2 ≤ code → code ≤ 5 → acceptance_fits (head_with code side 0 0) ≡ true
unfolding acceptance_fits first_of
whole_fits code side from to = rw (le-ltb 5 code to, lt-ltb 1 code (omega arith))

-- ---- sums that the lines determine
sums_from : (h : TicHead) (s : TicSums) (listed : ℕ) → s.rejected.0 ≡ listed → (h.accepted.0 ≡ 0 → s.accepted.0 ≡ 0) → sums_fit h s listed ≡ true
unfolding sums_fit every
sums_from h s listed e none = go h.accepted.0 refl
  where
    a : eqb s.rejected.0 listed ≡ true
    a = eq-eqb s.rejected.0 listed e

    go : (x : ℕ) → h.accepted.0 ≡ x → (eqb s.rejected.0 listed && ((ltb 0 h.accepted.0 || eqb s.accepted.0 0) && true)) ≡ true
    go zero f = let b : eqb s.accepted.0 0 ≡ true = eq-eqb s.accepted.0 0 (none f) in rw (a, b, or_true_right (ltb 0 h.accepted.0) true refl)
    go (suc x) f = let b : ltb 0 h.accepted.0 ≡ true = lt-ltb 0 h.accepted.0 (omega (arith, f)) in rw (a, b)

-- ---- the words and what is told of them
pub refused_count : (c : Call) → (summary_of c).refused ≡ count_of true (words_judged c)
unfolding summary_of
refused_count c = refl

pub lines_count : (c : Call) → (summary_of c).lines ≡ length (words_judged c)
unfolding summary_of
lines_count c = refl

pub words_count : (c : Call) → length (words_judged c) ≡ lines_of c
unfolding words_judged
words_count c = words_length (judging_of c) c.marks (lines_of c)

pub words_long : (c : Call) (w : Whole) → file_of c ≡ Ok w → length (words_judged c) ≡ w.lines
words_long c w file = words_count c ∙ ap lines_to_judge file

-- ---- the word of a line has the number of its verdict
pub number_is : (c : Call) (k : ℕ) → k < lines_of c → number_at (words_judged c) k ≡ verdict_number (verdict_at (judging_of c) c.marks k)
unfolding words_judged words_of word_at
number_is c k h = ap word_number (table_at (word_at (judging_of c) c.marks) (lines_of c) k 0 h) ∙ word_number_lem (verdict_at (judging_of c) c.marks k)

-- ---- a file that is judged line by line
module _ (c : Call) (s : CallSound c) (w : Whole) (file : file_of c ≡ Ok w) where
  abbrev words : List ℕ
  words = words_judged c

  lines_is : lines_of c ≡ w.lines
  lines_is = ap lines_to_judge file

  listable : Worded c.tif c.card words
  unfolding words_judged
  listable = rw lines_is (list_ready c s w file (judging_of c) refl)

  abbrev whole : JudgedFile c.name c.names c.tif w
  whole = judged c s w file

  few : count_of false words + count_of true words ≤ most_lines
  few = omega (arith, counts_add words, words_long c w file, whole.framed.counted.few)

  each_line : (j : ℕ) → j < count_of true words → line_sound (line_shown c (refusal_of c j)) ≡ true
  each_line j h = line_shown_lem (line_at c.tif (refusal_of c j)) (whole.each (refusal_of c j) (omega (arith, (placed words j h).within, words_long c w file)))

  refused_number : (k : ℕ) → refused_at words k ≡ true → 1 ≤ number_at words k
  unfolding is_counted is_accepted
  refused_number k e = go (number_at words k) refl
    where
      go : (n : ℕ) → number_at words k ≡ n → 1 ≤ n
      go zero f = absurd (false≢true (ap not (sym (eq-eqb (number_at words k) 0 f)) ∙ e))
      go (suc n) f = omega arith

  each_code : (j : ℕ) → j < count_of true words → code_sound (code_shown c (refusal_of c j)) ≡ true
  each_code j h =
      let p = placed words j h in
      code_shown_lem (is_lent c.tst) c.card (number_at words (refusal_of c j)) s.card_form (refused_number (refusal_of c j) p.refused) (listable.known (refusal_of c j) p.within)

  listed_amount : (j : ℕ) → amount_at c.tif (refusal_of c j) ≡ amount_of (values_of_tic c) j
  unfolding amount_at amount_of
  listed_amount j = ap number_of (sym (part_part 11 136 809 0 (line_at c.tif (refusal_of c j)) (omega arith)))

  rejected_sum : total_of true c.tif words ≡ sum_below (count_of true words) (amount_of (values_of_tic c))
  rejected_sum = refused_total words c.tif ∙ sum_same (λ j. amount_at c.tif (refusal_of c j)) (amount_of (values_of_tic c)) (count_of true words) (λ j h. listed_amount j)

  accepted_small : total_of false c.tif words < 10 ^ 15
  accepted_small = omega (arith, total_within false c.tif words, ap (body_total c.tif) (words_long c w file), whole.sum, whole.small)

  head_fits : acceptance_fits (head_of (summary_of c)) ≡ true
  unfolding summary_of
  head_fits =
      ap (λ (a : Acceptance). acceptance_fits (head_with (answer_code (file_answer a (count_of true words))) (side_of c.tif) (count_of false words) (count_of true words))) file
      ∙ judged_fits (side_of c.tif) (count_of false words) (count_of true words) whole.sided

  pub judged_sound : Sound (values_of_tic c)
  unfolding summary_of
  judged_sound =
      let n = name_shows c.name s.name_form in
      record {
        receiver = n.receiver;
        stem = n.stem;
        moment = s.moment_real;
        counts = agrees_from (head_of (summary_of c)) (count_of true words) refl few head_fits;
        line = each_line;
        code = each_code;
        sums = sums_from (head_of (summary_of c)) (sums_of (summary_of c)) (sum_below (count_of true words) (amount_of (values_of_tic c))) rejected_sum (none_accepted words c.tif);
        fifteen = accepted_small;
      }

-- ---- a file that is refused as a whole
module _ (c : Call) (s : CallSound c) (code : ℕ) (from : 2 ≤ code) (to : code ≤ 5) (none : lines_of c ≡ 0) (coded : (y : ℕ) → answer_code (file_answer (file_of c) y) ≡ code) where
  no_words : words_judged c ≡ []
  unfolding words_judged words_of table_below
  no_words = rw none

  no_count : (refused : Bool) → count_of refused (words_judged c) ≡ 0
  unfolding count_of sum_below
  no_count refused = rw no_words

  no_total : (refused : Bool) → total_of refused c.tif (words_judged c) ≡ 0
  unfolding total_of sum_below
  no_total refused = rw no_words

  no_listed : 0 ≡ sum_below (count_of true (words_judged c)) (amount_of (values_of_tic c))
  unfolding sum_below
  no_listed = rw (no_count true)

  pub whole_sound : Sound (values_of_tic c)
  unfolding summary_of
  whole_sound =
      let n = name_shows c.name s.name_form in
      record {
        receiver = n.receiver;
        stem = n.stem;
        moment = s.moment_real;
        counts = agrees_from (head_of (summary_of c)) (count_of true (words_judged c)) refl (omega (arith, no_count false, no_count true)) (rw (coded (count_of true (words_judged c)), no_count false, no_count true) (whole_fits code (side_of c.tif) from to));
        line = λ j h. absurd (omega (arith, h, no_count true));
        code = λ j h. absurd (omega (arith, h, no_count true));
        sums = sums_from (head_of (summary_of c)) (sums_of (summary_of c)) (sum_below (count_of true (words_judged c)) (amount_of (values_of_tic c))) (no_total true ∙ no_listed) (λ _. no_total false);
        fifteen = omega (arith, no_total false);
      }

-- ---- every call
pub written_sound : (c : Call) → check_of c ≡ Ok tt → Sound (values_of_tic c)
written_sound c sound = go (file_of c) refl
  where
    s : CallSound c
    s = check_shows c sound

    go : (a : Acceptance) → file_of c ≡ a → Sound (values_of_tic c)
    go (Ok w) e = judged_sound c s w e
    go (Err FileFault.AlreadyReceived) e = whole_sound c s 2 (omega arith) (omega arith) (ap lines_to_judge e) (λ y. ap (λ (a : Acceptance). answer_code (file_answer a y)) e)
    go (Err FileFault.CountsDiffer) e = whole_sound c s 3 (omega arith) (omega arith) (ap lines_to_judge e) (λ y. ap (λ (a : Acceptance). answer_code (file_answer a y)) e)
    go (Err FileFault.TotalDiffers) e = whole_sound c s 4 (omega arith) (omega arith) (ap lines_to_judge e) (λ y. ap (λ (a : Acceptance). answer_code (file_answer a y)) e)
    go (Err FileFault.OutOfForm) e = whole_sound c s 5 (omega arith) (omega arith) (ap lines_to_judge e) (λ y. ap (λ (a : Acceptance). answer_code (file_answer a y)) e)

pub written_length : (c : Call) → check_of c ≡ Ok tt → length (tic_text (values_of_tic c)) ≡ (summary_of c).length
unfolding summary_of
written_length c sound = tic_length_lem (values_of_tic c) (wide (values_of_tic c) (written_sound c sound)) ∙ omega arith
