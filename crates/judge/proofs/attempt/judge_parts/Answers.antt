use mathlib.Core.Path.{◌∙◌}
use native.Mathlib.Nat.{sub-zero}
use lib.Seq.{length-take-le}
use Rattle.judge.specs.CoreLaws.{parts_filled}
use Rattle.judge.specs.CoreLaws.{given_parts}
use Rattle.judge.proofs.attempt.judge_parts.Goals as goal

pub judge_lines-requires : goal.judge_lines-requires
judge_lines-requires c = (given_parts _ _ _ _ _ c.args.m c.args.n c.requires.0.room c.requires.0.given, c.requires.0.tabled)

pub returns : goal.returns
returns c =
    parts_filled _ _ _ _ _ _ _ _ _ c.requires.1 c.requires.0.room _ _ c.side_of.ensures c.field.ensures _ _ _ (c.judge_lines.auto.marks ∙ rw sub-zero (length-take-le _ _ c.requires.1)) c.judge_lines.ensures
