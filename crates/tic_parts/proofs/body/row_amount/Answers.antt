use native.Mathlib.Omega.{arith}
use Rattle.tic_parts.specs.ReadingLaws.{digits_part}
use Rattle.tic_parts.proofs.body.row_amount.Goals as goal

pub number_of-requires : goal.number_of-requires
number_of-requires c = digits_part _ c.args.row.now 136 11 c.field.ensures (omega arith) c.requires.1
