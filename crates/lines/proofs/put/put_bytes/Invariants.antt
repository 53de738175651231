use Rattle.std.specs.Prelude.{◌≡◌, length, take}
use Rattle.lines.specs.Splice.{splice}
use Rattle.lines.proofs.put.put_bytes.Given as goal

abbrev pub invariant-loop-i : goal.invariant-loop-i
invariant-loop-i l = (l.out ≡ splice l.initial.out l.at (take l.i l.text)) × (length l.out ≡ length l.initial.out)
