use Rattle.std.proofs.Common.{sym, arith, length-take-le}
use Rattle.lines.specs.ClassLaws.{place_le}
use Rattle.lines.specs.declared.class.Class.TheVariants.{Only}
use Rattle.lines.proofs.class.filled_with.Goals as goal

pub slice_bounds-all_of-end : goal.slice_bounds-all_of-end
slice_bounds-all_of-end c = sym (length-take-le _ _ (omega (arith, c.place_of-filled.ensures, place_le (Only 32) c.args.s.now)))
