use Rattle.std.proofs.Common.{◌-◌, ◌<◌, length}
use Rattle.chains.specs.Ahead.{link_at}
use Rattle.chains.specs.Hash.{hash_two}
use Rattle.cover.specs.Detected.{asked_by}
use Rattle.cover.specs.Plates.{WayTo}
use Rattle.cover.proofs.plates.first_leased.Given as goal

abbrev pub invariant-loop-x : goal.invariant-loop-x
invariant-loop-x l = WayTo l.book l.links (asked_by l.detected) (hash_two l.detected.plate.now l.detected.nation.now) (link_at l.links l.link) × (l.link < length l.links)

abbrev pub decreases-loop-x : goal.decreases-loop-x
decreases-loop-x l = l.n - link_at l.links l.link
