use Prim.Native.Nat.{◌-◌}
use Rattle.lines.specs.Word.{AlikeBefore}
use Rattle.lines.proofs.same.deciding_word.Given as goal

abbrev pub invariant-loop-i : goal.invariant-loop-i
invariant-loop-i l = AlikeBefore l.a l.b l.i

abbrev pub decreases-loop-i : goal.decreases-loop-i
decreases-loop-i l = l.last - l.i
