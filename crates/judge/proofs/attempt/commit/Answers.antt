use Rattle.std.specs.Prelude.{ℕ, List}
use mathlib.Core.Path.{ap₂, ◌∙◌}
use Rattle.answers.specs.Listing.{tic_of}
use Rattle.lines.specs.Splice.{splice}
use Rattle.tic_text.specs.Text.{tic_text}
use Rattle.tic_text.specs.declared.values.TicHead.{TicHead}
use Rattle.tic_text.specs.declared.values.TicSums.{TicSums}
use Rattle.judge.proofs.attempt.commit.Goals as goal

pub put_tic-requires : goal.put_tic-requires
put_tic-requires c =
    rw c.head_of.ensures c.requires.text

pub returns : goal.returns
returns c =
    let a = c.args in
    let text : TicHead → TicSums → List ℕ = λ h t. splice a.out.now 0 (tic_text (tic_of a.inputs.name.now a.inputs.received.now a.inputs.card.now a.inputs.tif.now a.words.now h t)) in
    record {
      marks_then = c.copy_from_slice.ensures.after;
      out_then = c.put_tic.ensures.spliced ∙ ap₂ text c.head_of.ensures c.sums_told.ensures;
    }
