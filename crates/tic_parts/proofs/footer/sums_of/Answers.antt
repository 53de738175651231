use native.Mathlib.Omega.{arith}
use Rattle.tic_parts.specs.ReadingLaws.{digits_part, footer_shows}
use Rattle.tic_parts.proofs.footer.sums_of.Goals as goal

pub number_of-requires : goal.number_of-requires
number_of-requires c = digits_part _ c.args.f.now 1 15 c.field.ensures (omega arith) (footer_shows _ c.requires.1).accepted

pub number_of-requires-2 : goal.number_of-requires-2
number_of-requires-2 c = digits_part _ c.args.f.now 16 15 c.field-2.ensures (omega arith) (footer_shows _ c.requires.1).rejected
