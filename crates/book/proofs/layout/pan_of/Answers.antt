use mathlib.Core.Path.{◌≡◌, ap, ◌∙◌}
use lib.ListN.{length}
use borrow.Author.Rules.{rules}
use Rattle.lines.specs.Columns.{cols}
use Rattle.book.specs.Layout.{pan_of}
use Rattle.book.specs.LayoutLaws.{entry_length}
use Rattle.book.proofs.layout.pan_of.Goals as goal

pub field-requires : goal.field-requires
field-requires c =
    let e : length c.line_of.result.now ≡ 23 = ap length c.line_of.ensures ∙ entry_length _ _ c.requires in
    search rules

pub returns : goal.returns
unfolding pan_of
returns c = c.field.ensures ∙ ap (cols 1 19) c.line_of.ensures
