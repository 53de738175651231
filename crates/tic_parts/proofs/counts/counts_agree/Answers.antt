use native.Mathlib.Omega.{arith}
use Rattle.tic_parts.specs.ReadingLaws.{digits_part, digits_show}
use Rattle.tic_parts.proofs.counts.counts_agree.Goals as goal

pub number_of-requires : goal.number_of-requires
number_of-requires c = digits_part _ c.args.h.now 105 15 c.field.ensures (omega arith) (digits_show _ c.requires.digits).again

pub number_of-requires-then-number_of-head : goal.number_of-requires-then-number_of-head
number_of-requires-then-number_of-head c = digits_part _ c.args.h.now 120 15 c.field-then-number_of-head.ensures (omega arith) (digits_show _ c.requires.digits).rejected_too
