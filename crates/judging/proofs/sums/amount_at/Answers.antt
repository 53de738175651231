use native.Mathlib.Omega.{arith}
use mathlib.Core.Path.{ap, ◌∙◌}
use lib.ListN.{drop, length-take}
use Rattle.lines.specs.Columns.{cols}
use Rattle.lines.specs.Number.{value_of}
use Rattle.lines.specs.NumberLaws.{value_digits}
use Rattle.tif.specs.Body.{line_at, amount_at}
use Rattle.judging.specs.StepLaws.{line_whole}
use Rattle.judging.proofs.sums.amount_at.Goals as goal

pub field-requires : goal.field-requires
field-requires c =
    let w = line_whole c.args.tif.now c.args.k c.requires.0 in
    record { first = omega arith; order = omega arith; last = rw c.tif_line.ensures (omega arith) }

pub value_of-requires : goal.value_of-requires
value_of-requires c =
    rw (c.field.ensures, c.tif_line.ensures) (omega (arith, length-take 11 (drop 136 (line_at c.args.tif.now c.args.k))))

pub returns : goal.returns
unfolding amount_at
returns c =
    c.value_of.ensures
    ∙ ap value_of (c.field.ensures ∙ ap (cols 137 147) c.tif_line.ensures)
    ∙ value_digits _ c.requires.1
