use Rattle.lines.specs.RowsLaws.{line_length}
use Rattle.tif.specs.Columns.{tif_layout}
use Rattle.judge_vectors.proofs.print_line_judged.Goals as goal

pub record_of-requires : goal.record_of-requires
record_of-requires g c = rw c.tif_line.ensures (line_length tif_layout c.args.tif.now c.args.k c.requires.lined)
