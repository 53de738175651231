-- What two reads take, one after the other. Assumes nothing.
use Rattle.std.proofs.Common.{ℕ, ◌+◌, ◌<◌, ◌≤◌, List, ◌++◌, Option, inr, arith, length-append}
use Rattle.std.proofs.KnownBytes.{Consumes-trans}
use Rattle.buffers.specs.Reads.{LosesAtMost}
use Rattle.frames.specs.Cases.{ReadsSize, LacksPart}

-- a size was read, and then no more than some bytes of the part are gone
pub loses_after_size : {a b c : Option (List ℕ)} {size n most : ℕ} → ReadsSize a b size → LosesAtMost b c n → 4 + n ≤ most → LosesAtMost a c most
loses_after_size {a} {b} {c} read lost h =
    record {
      gone = read.head ++ lost.gone;
      taken = Consumes-trans a b c read.head lost.gone read.taken lost.taken;
      few = omega (arith, length-append read.head lost.gone, read.four, lost.few, h);
    }

-- a size was read that is above the room
pub lacks_room : {a b : Option (List ℕ)} {size room : ℕ} → ReadsSize a b size → room < size → LacksPart a b room
lacks_room {size = size} read above = inr (size, read, above)
