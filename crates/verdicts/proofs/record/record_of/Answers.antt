use native.Mathlib.Omega.{arith}
use lib.ListN.{drop, length-take}
use Rattle.verdicts.proofs.record.record_of.Goals as goal

pub value_of-requires : goal.value_of-requires
value_of-requires c = rw c.field.ensures (omega (arith, length-take 11 (drop 136 c.args.line.now)))

pub value_of-requires-2 : goal.value_of-requires-2
value_of-requires-2 c = rw c.field-2.ensures (omega (arith, length-take 11 (drop 114 c.args.line.now)))
