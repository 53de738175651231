-- From what was found to what the call ensures. Assumes nothing.
use Rattle.std.specs.Prelude.{◌≡◌, ℕ, ◌<◌, true, false, List, [], length, nat_lt, Err, Ok}
use Rattle.std.proofs.Common.{sym, ◌∙◌, arith}
use Rattle.std.proofs.Math.Path.{ap}
use borrow.Author.Tests.{ltb-false}
use Rattle.lines.specs.BoolLaws.{or_none_right}
use Rattle.lines.specs.Splice.{splice}
use Rattle.lines.specs.SpliceLaws.{splice_zero}
use Rattle.tic_text.specs.Text.{tic_text}
use Rattle.answers.specs.Told.{too_small}
use Rattle.judge.specs.Call.{Call, check_of, words_judged, marks_judged, summary_of, tic_of_call, answer_of, marks_of, out_of}
use Rattle.judge.specs.Core.{words_tried, CallTried}
use Rattle.judge.specs.Records.{LineKnown}
use Rattle.answers.specs.Answer.{Answer}
use Rattle.answers.specs.declared.answer.CallFault.{CallFault}
use Rattle.answers.specs.declared.answer.Summary.{Summary}

-- a call that E1 to E6 or E8 refuse
pub refused_call : (c : Call) (f : CallFault) → check_of c ≡ Err f → (words : List ℕ) → CallTried c words (Err f) c.marks words c.out
unfolding answer_of marks_of out_of words_tried
refused_call c f e words =
    record {
      answer = rw e;
      marks_then = rw e;
      out_then = rw e;
      words_then = rw e (sym (splice_zero words []));
      room_for = omega arith;
      known = λ k h. absurd (omega arith);
    }

-- a call that is sound so far
module _ (c : Call) (sound : check_of c ≡ Ok tt) (s : Summary) (told : s ≡ summary_of c) (words words' : List ℕ) (tried : words' ≡ splice words 0 (words_judged c)) where
  words_then : words' ≡ splice words 0 (words_tried c)
  unfolding words_tried
  words_then = tried ∙ rw sound

  -- without room it is refused, and nothing to be kept is changed
  pub no_room : too_small s c.room (length c.out) ≡ true → CallTried c words (Err CallFault.Room) c.marks words' c.out
  unfolding answer_of marks_of out_of
  no_room small =
      let t : too_small (summary_of c) c.room (length c.out) ≡ true = ap (λ (x : Summary). too_small x c.room (length c.out)) (sym told) ∙ small in
      record {
        answer = rw (sound, t);
        marks_then = rw (sound, t);
        out_then = rw (sound, t);
        words_then = words_then;
        room_for = omega arith;
        known = λ k h. absurd (omega arith);
      }

  -- with room it is answered
  pub answered : too_small s c.room (length c.out) ≡ false → (marks' out' : List ℕ) → marks' ≡ marks_judged c → out' ≡ splice c.out 0 (tic_text (tic_of_call c))
      → ((k : ℕ) → k < s.lines → LineKnown c.tif words' k) → CallTried c words (Ok s) marks' words' out'
  unfolding answer_of marks_of out_of
  answered small marks' out' em eo known =
      let t : too_small (summary_of c) c.room (length c.out) ≡ false = ap (λ (x : Summary). too_small x c.room (length c.out)) (sym told) ∙ small in
      record {
        answer = ap {B = Answer} Ok told ∙ rw (sound, t);
        marks_then = em ∙ rw (sound, t);
        out_then = eo ∙ rw (sound, t);
        words_then = words_then;
        room_for = ltb-false c.room s.lines (or_none_right (nat_lt (length c.out) s.length) (nat_lt c.room s.lines) small);
        known = known;
      }
