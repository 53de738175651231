use Rattle.std.proofs.Common.{arith, ap, length, length-take}
use Rattle.tif.proofs.header.Header.read.Goals as goal

pub read_digits-requires : goal.read_digits-requires
read_digits-requires c = omega (arith, simp length-take at (ap length c.field.ensures))

pub read_digits-requires-2 : goal.read_digits-requires-2
read_digits-requires-2 c = omega (arith, simp length-take at (ap length c.field-2.ensures))
