-- The marks before this one are printed.
use Rattle.std.proofs.Common.{take}
use Rattle.std.specs.Prelude.{flat_map, decimal}
use Rattle.std.specs.Io.KnownBytes.{Appends}
use Rattle.frames.proofs.output.print_marks.Given as goal

abbrev pub invariant-loop-mark : goal.invariant-loop-mark
invariant-loop-mark g l = Appends (g.W.Write.contents l.initial.to) (g.W.Write.contents l.to) (flat_map decimal (take l.mark-index l.marks))
