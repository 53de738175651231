use Rattle.std.proofs.Common.{sym, ◌∙◌, arith}
use Rattle.lines.specs.RowsLaws.{count_is}
use Rattle.lines.proofs.rows.framed_lines.Goals as goal

-- the number that the length gives, once it gives one
pub feeds_stand-requires : goal.feeds_stand-requires
feeds_stand-requires c = omega (arith, (count_is _ _ _ (sym c.line_count.ensures ∙ c.in_ok-n.was)).2.long)
