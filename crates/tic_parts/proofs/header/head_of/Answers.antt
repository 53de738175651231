use native.Mathlib.Omega.{arith}
use Rattle.tic_parts.specs.ReadingLaws.{digits_part, digits_show}
use Rattle.tic_parts.proofs.header.head_of.Goals as goal

pub number_of-requires : goal.number_of-requires
number_of-requires c = digits_part _ c.args.h.now 193 2 c.field.ensures (omega arith) (digits_show _ c.requires.1).acceptance

pub number_of-requires-2 : goal.number_of-requires-2
number_of-requires-2 c = digits_part _ c.args.h.now 72 15 c.field-3.ensures (omega arith) (digits_show _ c.requires.1).accepted

pub number_of-requires-3 : goal.number_of-requires-3
number_of-requires-3 c = digits_part _ c.args.h.now 87 15 c.field-4.ensures (omega arith) (digits_show _ c.requires.1).rejected
