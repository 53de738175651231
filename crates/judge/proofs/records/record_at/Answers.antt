use Rattle.std.specs.Prelude.{ℕ, ◌+◌, List}
use mathlib.Core.Path.{ap, ◌∙◌}
use Rattle.lines.specs.RowsLaws.{line_length}
use Rattle.tif.specs.Body.{line_at}
use Rattle.tif.specs.Columns.{tif_layout}
use Rattle.verdicts.specs.Record.{record_of}
use Rattle.verdicts.specs.declared.verdict.Verdict.{Verdict}
use Rattle.judge.specs.Records.{record_at}
use Rattle.judge.proofs.records.record_at.Goals as goal

pub record_of-requires : goal.record_of-requires
record_of-requires c =
    rw c.tif_line.ensures (line_length tif_layout c.args.tif.now c.args.k c.requires.lined)

pub returns : goal.returns
unfolding record_at
returns c =
    let k = c.args.k in
    c.record_of.ensures
    ∙ ap (λ (t : List ℕ). record_of t (k + 1) c.from.result) c.tif_line.ensures
    ∙ ap (λ (w : Verdict). record_of (line_at c.args.tif.now k) (k + 1) w) c.from.ensures
