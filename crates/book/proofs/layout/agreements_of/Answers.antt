use native.Mathlib.Omega.{arith}
use mathlib.Core.Path.{ap, ◌∙◌}
use Rattle.lines.specs.Number.{big_endian}
use Rattle.book.specs.Layout.{agreements}
use Rattle.book.specs.LayoutLaws.{short_field}
use Rattle.book.proofs.layout.agreements_of.Goals as goal

pub big_endian-requires : goal.big_endian-requires
big_endian-requires c = short_field 1 2 c.args.book.now _ c.field.ensures (omega arith)

pub returns : goal.returns
unfolding agreements
returns c = c.big_endian.ensures.value ∙ ap big_endian c.field.ensures
