use mathlib.Core.Path.{◌≡◌}
use lib.ListN.{length}
use Rattle.lines.specs.Splice.{Put}
use Rattle.answers.specs.Listing.{listed_lines}
use Rattle.answers.proofs.listing.put_lines.Given as goal

abbrev pub invariant-loop-k : goal.invariant-loop-k
invariant-loop-k l = Put (listed_lines l.inputs.tif.now l.inputs.card.now l.words l.k) l.from l.initial.out l.at l.out × (length l.out ≡ length l.initial.out)
