use Rattle.std.proofs.Common.{◌≡◌, false}
use Rattle.lines.specs.Below.{some_below}
use Rattle.book.specs.Layout.{width}
use Rattle.cover.specs.Cover.{has_cover}
use Rattle.cover.specs.Detected.{asked_by}
use Rattle.cover.proofs.cover.first_cover.Given as goal

abbrev pub invariant-loop-i : goal.invariant-loop-i
invariant-loop-i l = some_below l.i (has_cover width l.book (asked_by l.detected)) ≡ false
