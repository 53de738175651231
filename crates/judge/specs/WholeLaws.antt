-- A file refused as a whole: its TIC has no line, and its counts and sums are zero. Assumes nothing.
use Rattle.std.specs.Prelude.{◌≡◌, ℕ, ◌≤◌, Bool, true, false, List, [], length, nat_lt, Err, Ok}
use Rattle.std.specs.Prelude.{refl}
use Rattle.std.proofs.Common.{sym, ◌∙◌, arith}
use Rattle.std.proofs.Math.Path.{ap}
use borrow.Author.Tests.{ltb-false}
use Rattle.lines.specs.Below.{sum_below, table_below}
use Rattle.lines.specs.BoolLaws.{or_none_left}
use Rattle.lines.specs.Splice.{splice, Put}
use Rattle.lines.specs.SpliceLaws.{splice_nil}
use Rattle.tic_text.specs.Text.{Tic, tic_text}
use Rattle.tic_text.specs.declared.values.TicHead.{TicHead}
use Rattle.tic_text.specs.declared.values.TicSums.{TicSums}
use Rattle.debits.specs.Credits.{marks_after}
use Rattle.judging.specs.Judging.{words_of}
use Rattle.judging.specs.Sums.{count_of, total_of}
use Rattle.tif.specs.Acceptance.{Acceptance}
use Rattle.answers.specs.Told.{total_told, file_answer, refused_file, head_of, sums_of, too_small}
use Rattle.judge.specs.Call.{Call, check_of, file_of, lines_of, lines_to_judge, words_judged, marks_judged, summary_of, tic_of_call}
use Rattle.judge.specs.Core.{Widths, FileRefused, CallTried}
use Rattle.answers.specs.Listing.{tic_of, refused_before, TicRoom}
use Rattle.judge.specs.AnswerLaws.{no_room, answered}
use Rattle.judge.specs.SoundLaws.{check_shows}
use Rattle.answers.specs.Answer.{Answer}
use Rattle.answers.specs.declared.answer.CallFault.{CallFault}
use Rattle.answers.specs.declared.answer.FileAnswer.{FileAnswer}
use Rattle.answers.specs.declared.answer.Summary.{Summary}

-- the writing function's own answers
module _ (name received card tif : List ℕ) (a : FileAnswer) (room : ℕ) (out : List ℕ) (s : Summary) (is : s ≡ refused_file a tif) where
  pub file_small : too_small s room (length out) ≡ true → FileRefused name received card tif (refused_file a tif) room out (Err CallFault.Room) out
  file_small small =
      let t : too_small (refused_file a tif) room (length out) ≡ true = ap (λ (x : Summary). too_small x room (length out)) (sym is) ∙ small in
      record { answer = rw t; out_then = rw t }

  pub file_room : Widths name received → too_small s room (length out) ≡ false → (h : TicHead) → h ≡ head_of s → TicRoom name received card tif [] h out
  unfolding refused_before sum_below
  file_room w small h e =
      let l : s.length ≤ length out = ltb-false (length out) s.length (or_none_left (nat_lt (length out) s.length) (nat_lt room s.lines) small) in
      let n : s.length ≡ 324 = ap (λ (x : Summary). x.length) is in
      record {
        named = w.named;
        dated = w.dated;
        worded = record { lined = λ k h. absurd (omega arith); known = λ k h. absurd (omega arith) };
        counted = ap (λ (x : TicHead). x.rejected.0) e ∙ ap (λ (x : Summary). x.refused) is;
        room = omega (arith, l, n);
      }

  pub file_written : too_small s room (length out) ≡ false → (h : TicHead) (t : TicSums) → h ≡ head_of s → t ≡ sums_of s → (r : ℕ) (out' : List ℕ) → Put (tic_text (tic_of name received card tif [] h t)) 0 out r out'
      → FileRefused name received card tif (refused_file a tif) room out (Ok s) out'
  file_written small h t eh et r out' p =
      let q : too_small (refused_file a tif) room (length out) ≡ false = ap (λ (x : Summary). too_small x room (length out)) (sym is) ∙ small in
      record {
        answer = ap {B = Answer} Ok is ∙ rw q;
        out_then =
            p.spliced
            ∙ ap (λ (x : TicHead). splice out 0 (tic_text (tic_of name received card tif [] x t))) (eh ∙ ap head_of is)
            ∙ ap (λ (x : TicSums). splice out 0 (tic_text (tic_of name received card tif [] (head_of (refused_file a tif)) x))) (et ∙ ap sums_of is)
            ∙ rw q;
      }

-- the call whose file is refused as a whole: no line, and all its numbers zero
pub record NoLines (c : Call) (a : FileAnswer) : Type 0 where
  pub none : lines_of c ≡ 0
  pub named : file_answer (file_of c) 0 ≡ a
  pub nothing : total_told (file_of c) ≡ 0

module _ (c : Call) (sound : check_of c ≡ Ok tt) (a : FileAnswer) (n : NoLines c a) where
  no_words : words_judged c ≡ []
  unfolding words_judged words_of table_below
  no_words = rw n.none

  same_marks : c.marks ≡ marks_judged c
  unfolding marks_judged marks_after
  same_marks = rw n.none

  told_none : refused_file a c.tif ≡ summary_of c
  unfolding summary_of count_of total_of sum_below
  told_none = rw (no_words, n.named, n.nothing)

  none_tried : (words : List ℕ) → words ≡ splice words 0 (words_judged c)
  none_tried words = rw no_words (sym (splice_nil words 0))

  its_tic : tic_of c.name c.received c.card c.tif [] (head_of (refused_file a c.tif)) (sums_of (refused_file a c.tif)) ≡ tic_of_call c
  unfolding tic_of_call
  its_tic =
      ap (λ (l : List ℕ). tic_of c.name c.received c.card c.tif l (head_of (refused_file a c.tif)) (sums_of (refused_file a c.tif))) (sym no_words)
      ∙ ap (λ (x : Summary). tic_of c.name c.received c.card c.tif (words_judged c) (head_of x) (sums_of x)) told_none

  pub file_refused : (r : Answer) (words out' : List ℕ) → FileRefused c.name c.received c.card c.tif (refused_file a c.tif) c.room c.out r out' → CallTried c words r c.marks words out'
  file_refused r words out' f = go (too_small (refused_file a c.tif) c.room (length c.out)) refl
    where
      go : (b : Bool) → too_small (refused_file a c.tif) c.room (length c.out) ≡ b → CallTried c words r c.marks words out'
      go true t =
          let er : r ≡ Err CallFault.Room = f.answer ∙ rw t in
          let eo : out' ≡ c.out = f.out_then ∙ rw t in
          rw (er, eo) (no_room c sound (refused_file a c.tif) told_none words words (none_tried words) t)
      go false t =
          let er : r ≡ Ok (refused_file a c.tif) = f.answer ∙ rw t in
          let eo : out' ≡ splice c.out 0 (tic_text (tic_of_call c)) = f.out_then ∙ (rw t) ∙ ap (λ (v : Tic). splice c.out 0 (tic_text v)) its_tic in
          rw er (answered c sound (refused_file a c.tif) told_none words words (none_tried words) t c.marks out' same_marks eo (λ k h. absurd (omega arith)))

-- such a call by its file's acceptance
pub no_lines : (c : Call) (x : Acceptance) → x ≡ file_of c → (lines_to_judge x ≡ 0) × (total_told x ≡ 0) → (a : FileAnswer) → a ≡ file_answer x 0 → NoLines c a
no_lines c x e none a is = record { none = ap lines_to_judge (sym e) ∙ none.0; named = ap (λ (y : Acceptance). file_answer y 0) (sym e) ∙ sym is; nothing = ap total_told (sym e) ∙ none.1 }

pub widths : (c : Call) → check_of c ≡ Ok tt → Widths c.name c.received
widths c e = let s = check_shows c e in record { named = s.named; dated = s.dated }
