use Rattle.std.proofs.Common.{arith, sym, length-take-le}
use Rattle.lines.specs.ClassLaws.{place_le}
use Rattle.lines.specs.declared.class.Class.TheVariants.{Only}
use Rattle.plate.proofs.plates.padded_plate.Goals as goal

pub slice_bounds-all_plate_bytes-end : goal.slice_bounds-all_plate_bytes-end
slice_bounds-all_plate_bytes-end c = sym (length-take-le _ c.args.plate.now (omega (arith, c.place_of-filled.ensures, place_le (Only 32) c.args.plate.now)))
