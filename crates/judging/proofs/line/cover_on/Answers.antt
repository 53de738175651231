use native.Mathlib.Omega.{arith}
use mathlib.Core.Path.{◌∙◌}
use lib.ListN.{drop}
use lib.ListN.{length-take, length-drop}
use Rattle.judging.specs.Judging.{cover_on}
use Rattle.judging.proofs.line.cover_on.Goals as goal

pub cover_at-requires : goal.cover_at-requires
cover_at-requires c =
    let line = c.args.line.now in (
      record { sound = c.requires.0; timed = rw c.field.ensures (omega (arith, length-take 14 (drop 60 line), length-drop 60 line, c.requires.1)) },
      rw c.field-pan.ensures (omega (arith, length-take 19 (drop 3 line), length-drop 3 line, c.requires.1)),
    )

pub returns : goal.returns
unfolding cover_on
returns c = c.cover_at.ensures ∙ rw (c.field-pan.ensures, c.field.ensures, c.field-2.ensures, c.field-3.ensures)
