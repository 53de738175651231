-- What a call that is answered leaves in its output and its marks. Assumes nothing.
use Rattle.std.specs.Prelude.{◌≡◌, List, ◌++◌, ℕ, length, take, Ok}
use Rattle.std.proofs.Common.{sym, ◌∙◌, take_at}
use Rattle.std.proofs.Math.Path.{ap}
use Rattle.std.proofs.Math.ListN.{drop}
use Rattle.lines.specs.SpliceLaws.{splice_zero}
use Rattle.tic_text.specs.Text.{tic_text}
use Rattle.verdicts.specs.declared.record.Record.{Record}
use Rattle.judge.specs.Call.{Call, marks_judged, tic_of_call, marks_of, out_of, Judged}
use Rattle.answers.specs.declared.answer.Summary.{Summary}
use Rattle.promises.specs.LeftLaws.{Shown, answered_shows}
use Rattle.promises.specs.Written.{values_of_tic, tic_written}
use Rattle.promises.specs.WrittenLaws.{same_text, written_length}

module _ (c : Call) (records : List Record) (marks' : List ℕ) (records' : List Record) (out' : List ℕ) (s : Summary) (j : Judged c records (Ok s) marks' records' out') where
  pub shows : Shown c s
  shows = answered_shows c s (sym j.answer)

  pub marks_then_lem : marks' ≡ marks_judged c
  unfolding marks_of
  marks_then_lem = j.marks_then ∙ rw (sym j.answer)

  text_long : length (tic_text (tic_of_call c)) ≡ s.length
  text_long = ap length (same_text c) ∙ written_length c shows.sound ∙ ap (λ (x : Summary). x.length) (sym shows.told)

  -- the TIC stands in front, and past it the output is unchanged
  pub out_then : out' ≡ tic_text (tic_of_call c) ++ drop s.length c.out
  unfolding out_of
  out_then = j.out_then ∙ rw (sym j.answer) (splice_zero c.out (tic_text (tic_of_call c))) ∙ ap (λ (n : ℕ). tic_text (tic_of_call c) ++ drop n c.out) text_long

  pub written_is : tic_written s out' ≡ tic_text (values_of_tic c)
  written_is = ap (take s.length) out_then ∙ take_at (tic_text (tic_of_call c)) (drop s.length c.out) s.length text_long ∙ same_text c
