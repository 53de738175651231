use native.Mathlib.Omega.{arith}
use mathlib.Core.Path.{◌≡◌, ap, ◌∙◌}
use lib.ListN.{length}
use borrow.Author.Rules.{rules}
use Rattle.lines.specs.Columns.{cols}
use Rattle.lines.specs.Number.{big_endian}
use Rattle.book.specs.Layout.{offset_of}
use Rattle.book.specs.LayoutLaws.{entry_length, short_field}
use Rattle.book.proofs.layout.offset_of.Goals as goal

pub field-requires : goal.field-requires
field-requires c =
    let e : length c.line_of.result.now ≡ 23 = ap length c.line_of.ensures ∙ entry_length _ _ c.requires in
    search rules

pub big_endian-requires : goal.big_endian-requires
big_endian-requires c = short_field 20 23 c.line_of.result.now _ c.field.ensures (omega arith)

pub returns : goal.returns
unfolding offset_of
returns c = c.big_endian.ensures.value ∙ ap big_endian (c.field.ensures ∙ ap (cols 20 23) c.line_of.ensures)
