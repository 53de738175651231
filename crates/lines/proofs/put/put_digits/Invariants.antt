use Rattle.std.specs.Prelude.{◌≡◌, length}
use Rattle.lines.specs.Number.{digits_of}
use Rattle.lines.specs.Splice.{splice}
use Rattle.lines.proofs.put.put_digits.Given as goal

abbrev pub invariant-loop-i : goal.invariant-loop-i
invariant-loop-i l = (splice l.out l.at (digits_of l.i l.rest) ≡ splice l.initial.out l.at (digits_of l.width l.value)) × (length l.out ≡ length l.initial.out)
