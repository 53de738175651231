use native.Mathlib.Omega.{arith}
use Prim.Native.Nat.{◌+◌, ◌-◌}
use mathlib.Core.Path.{◌∙◌, ap}
use lib.ListN.{drop, length-take}
use Rattle.lines.specs.ClassLaws.{all_of_part}
use Rattle.lines.specs.Number.{all_digits, number_of}
use Rattle.lines.specs.declared.class.Class.TheVariants.{Digit}
use Rattle.moment.proofs.number_in.Goals as goal

pub number_of-requires : goal.number_of-requires
unfolding all_digits
number_of-requires c =
    let s = c in
    let a = s.args in
    let from = a.c.from - 1 in
    let width = a.c.to + 1 - a.c.from in
    rw c.field.ensures (omega (arith, length-take width (drop from a.s.now)), all_of_part Digit a.s.now from width s.requires.digits)

pub returns : goal.returns
returns c = c.number_of.ensures ∙ ap number_of c.field.ensures
