use native.Mathlib.Omega.{arith}
use mathlib.Core.Path.{ap}
use lib.ListN.{length, length-take}
use Rattle.tst.proofs.form.header_formed.Goals as goal

pub read_digits-requires : goal.read_digits-requires
read_digits-requires c = omega (arith, simp length-take at (ap length c.field-then-is_same.ensures))
