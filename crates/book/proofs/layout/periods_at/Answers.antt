use native.Mathlib.Omega.{arith}
use mathlib.Core.Path.{◌≡◌, ap, ◌∙◌}
use lib.ListN.{length}
use borrow.Author.Rules.{rules}
use Rattle.lines.specs.Columns.{cols}
use Rattle.lines.specs.Number.{big_endian}
use Rattle.book.specs.Layout.{periods_at}
use Rattle.book.specs.LayoutLaws.{head_length, short_field}
use Rattle.book.proofs.layout.periods_at.Goals as goal

pub field-requires : goal.field-requires
field-requires c =
    let e : length c.body_head.result.now ≡ 14 = ap length c.body_head.ensures ∙ head_length _ _ c.requires in
    search rules

pub big_endian-requires : goal.big_endian-requires
big_endian-requires c = short_field 13 14 c.body_head.result.now _ c.field.ensures (omega arith)

pub returns : goal.returns
unfolding periods_at
returns c = c.big_endian.ensures.value ∙ ap big_endian (c.field.ensures ∙ ap (cols 13 14) c.body_head.ensures)
