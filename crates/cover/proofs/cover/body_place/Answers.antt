use mathlib.Core.Path.{◌∙◌}
use Rattle.book.specs.Layout.{width}
use Rattle.book.specs.FormLaws.{whole_is}
use Rattle.cover.specs.CoverLaws.{entry_inside}
use Rattle.cover.proofs.cover.body_place.Goals as goal

pub offset_of-requires : goal.offset_of-requires
offset_of-requires c =
    entry_inside width _ (whole_is width _ c.requires.0) _ c.requires.1

pub returns : goal.returns
returns c =
    c.offset_of.ensures ∙ (whole_is width _ c.requires.0).offsets _ c.requires.1
