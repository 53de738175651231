use Prim.Native.Nat.{◌*◌, ◌≤◌}
use mathlib.Core.Path.{◌≡◌}
use lib.ListN.{length}
use Rattle.cover.specs.Plates.{PlatesFrom}
use Rattle.cover.proofs.plates.index_plates.Given as goal

abbrev pub invariant-loop-i : goal.invariant-loop-i
invariant-loop-i l = PlatesFrom l.book (64 * l.i) l.links × (l.i ≤ l.n) × (length l.links ≡ length l.initial.links)

abbrev pub decreases-loop-i : goal.decreases-loop-i
decreases-loop-i l = l.i
