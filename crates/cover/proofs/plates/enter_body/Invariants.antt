use Prim.Native.Nat.{◌+◌, ◌*◌, ◌≤◌}
use mathlib.Core.Path.{◌≡◌}
use lib.ListN.{length}
use Rattle.book.specs.Layout.{periods_at}
use Rattle.cover.specs.Plates.{PlatesFrom}
use Rattle.cover.proofs.plates.enter_body.Given as goal

abbrev pub invariant-loop-j : goal.invariant-loop-j
invariant-loop-j l = PlatesFrom l.book (64 * l.i + l.j) l.links × (l.j ≤ periods_at l.book l.at) × (length l.links ≡ length l.initial.links)

abbrev pub decreases-loop-j : goal.decreases-loop-j
decreases-loop-j l = l.j
