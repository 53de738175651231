-- A file judged line by line: from the words and marks that were found to the call's. Assumes nothing.
use Rattle.std.specs.Prelude.{◌≡◌, ℕ, ◌+◌, ◌-◌, ◌*◌, ◌<◌, ◌≤◌, false, List, length, take, nat_lt, Ok}
use Rattle.std.specs.Prelude.{refl}
use Rattle.std.proofs.Common.{sym, ◌∙◌, arith, take_at, ltb-false}
use Rattle.std.proofs.Math.Path.{ap}
use Rattle.std.proofs.Math.Nat.{sub-zero}
use Rattle.lines.specs.BoolLaws.{or_none_left}
use Rattle.lines.specs.Splice.{splice}
use Rattle.lines.specs.SpliceLaws.{splice_zero, splice_length}
use Rattle.tic_text.specs.Text.{tic_text}
use Rattle.tif.specs.Acceptance.{Acceptance}
use Rattle.tif.specs.declared.acceptance.Whole.{Whole}
use Rattle.debits.specs.CreditsLaws.{after_length}
use Rattle.tif.specs.Body.{line_at}
use Rattle.judging.specs.Judging.{Judging, reaches_at, marks_before, words_of}
use Rattle.judging.specs.Sums.{Worded, count_of}
use Rattle.tic.specs.Rewriting.{tic_length}
use Rattle.answers.specs.Told.{summary_for, head_of, sums_of, too_small}
use Rattle.judge.specs.Call.{Call, judging_of, lines_of, lines_to_judge, words_judged, marks_judged, summary_of, tic_of_call}
use Rattle.judge.specs.Core.{Filled, Committable, Committed, FileReady}
use Rattle.judge.specs.CoreLaws.{words_length}
use Rattle.answers.specs.Listing.{tic_of, refused_before}
use Rattle.judge.specs.Records.{LineKnown}
use Rattle.judge.specs.SoundLaws.{CallSound, check_shows, lines_few, sums_ready, line_there, list_ready}
use Rattle.answers.specs.declared.answer.Summary.{Summary}

module _ (c : Call) (w : Whole) (words : List ℕ) (ready : FileReady c w words) where
  abbrev j : Judging
  j = judging_of c

  pub sound : CallSound c
  sound = check_shows c ready.ready.sound

  lines_is : lines_of c ≡ w.lines
  lines_is = ap lines_to_judge ready.file

  judged_words : words_judged c ≡ words_of j c.marks w.lines
  unfolding words_judged
  judged_words = ap (words_of j c.marks) lines_is

  judged_long : length (words_judged c) ≡ w.lines
  judged_long = ap length judged_words ∙ words_length j c.marks w.lines

  few : w.lines ≤ length words
  few = omega (arith, lines_few c sound w ready.file, ready.ready.room)

  module _ (mine' words' : List ℕ) (filled : Filled c.name c.book c.debits c.marks c.tif c.tst w.lines words mine' words') where
    pub tried : words' ≡ splice words 0 (words_judged c)
    tried = filled.worded ∙ ap (splice words 0) (sym judged_words)

    pub words_long : w.lines ≤ length words'
    words_long = omega (arith, ap length tried ∙ splice_length words 0 (words_judged c) (omega (arith, judged_long, few)), few)

    -- the words in front are the file's
    pub front : take (w.lines - 0) words' ≡ words_judged c
    front = rw sub-zero (ap (take w.lines) (tried ∙ splice_zero words (words_judged c)) ∙ take_at (words_judged c) _ w.lines judged_long)

    front_long : length (take (w.lines - 0) words') ≡ w.lines
    front_long = ap length front ∙ judged_long

    pub sums : Worded c.tif (take (w.lines - 0) words')
    sums = sums_ready c sound w ready.file (take (w.lines - 0) words') front_long

    -- the marks in front of the copy are those after the lines
    pub marks_front : take (length c.marks - 0) mine' ≡ marks_judged c
    unfolding marks_judged
    marks_front = rw sub-zero (filled.marked ∙ ap (marks_before j c.marks) (sym lines_is))

    marks_same : length (take (length c.marks - 0) mine') ≡ length c.marks
    marks_same = rw sub-zero (ap length filled.marked ∙ after_length c.debits (line_at c.tif) (reaches_at j) c.marks w.lines)

    module _ (s : Summary) (is : s ≡ summary_for (Ok w) c.tif (take (w.lines - 0) words')) where
      pub told : s ≡ summary_of c
      unfolding summary_of
      told = is ∙ ap (summary_for (Ok w) c.tif) front ∙ ap (λ (a : Acceptance). summary_for a c.tif (words_judged c)) (sym ready.file)

      -- every line recorded has its word and its line
      pub known : (k : ℕ) → k < s.lines → LineKnown c.tif words' k
      known k h =
          let e : s.lines ≡ w.lines = ap (λ (x : Summary). x.lines) is ∙ front_long in
          record { worded = omega (arith, words_long, e); lined = line_there c sound w ready.file k (omega (arith, e)) }

      refused_is : s.refused ≡ refused_before (take (w.lines - 0) words') (length (take (w.lines - 0) words'))
      unfolding refused_before count_of
      refused_is = ap (λ (x : Summary). x.refused) is

      length_is : s.length ≡ 196 + s.refused * 812 + 128
      length_is = ap (λ (x : Summary). x.length) is ∙ ap (λ (x : Summary). tic_length x.refused) (sym is)

      pub committable : too_small s c.room (length c.out) ≡ false
          → Committable c.name c.received c.card c.tif (take (w.lines - 0) words') s (take (length c.marks - 0) mine') c.marks c.out
      committable small =
          let room : s.length ≤ length c.out = ltb-false (length c.out) s.length (or_none_left (nat_lt (length c.out) s.length) (nat_lt c.room s.lines) small) in
          record {
            text = record {
              named = sound.named;
              dated = sound.dated;
              worded = rw (front ∙ judged_words) (list_ready c sound w ready.file j refl);
              counted = refused_is;
              room = omega (arith, refused_is, length_is, room);
            };
            same = marks_same;
          }

      -- what was committed is the call's TIC
      pub written : (mine out' marks' : List ℕ) → Committed c.name c.received c.card c.tif (take (w.lines - 0) words') s mine c.out marks' out'
          → out' ≡ splice c.out 0 (tic_text (tic_of_call c))
      unfolding tic_of_call
      written mine out' marks' d =
          d.out_then
          ∙ ap (λ (l : List ℕ). splice c.out 0 (tic_text (tic_of c.name c.received c.card c.tif l (head_of s) (sums_of s)))) front
          ∙ ap (λ (x : Summary). splice c.out 0 (tic_text (tic_of c.name c.received c.card c.tif (words_judged c) (head_of x) (sums_of x)))) told
