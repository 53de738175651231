use native.Mathlib.Omega.{arith}
use Prim.Native.Nat.{◌+◌, ◌-◌, ◌*◌}
use mathlib.Core.Path.{◌≡◌, refl}
use borrow.Author.Rules.{rules}
use Rattle.book.specs.Layout.{width}
use Rattle.book.specs.FormLaws.{whole_is}
use Rattle.cover.specs.PlateChainLaws.{plates_none}
use Rattle.cover.proofs.plates.index_plates.Goals as goal

pub agreements_of-n-requires : goal.agreements_of-n-requires
agreements_of-n-requires c = (whole_is width _ c.requires.0).headed.enough

pub clear_ahead-requires : goal.clear_ahead-requires
clear_ahead-requires c = (omega arith, omega (arith, c.agreements_of-n.ensures, (whole_is width _ c.requires.0).headed.few))

pub loop-i-init : goal.loop-i-init
loop-i-init c =
    let e = c.agreements_of-n.ensures in
    (rw e (plates_none _ _ (omega arith) (rw e at c.clear_ahead.ensures)), omega arith, refl)

pub enter_body-requires : goal.enter_body-requires
enter_body-requires c =
    let e : 64 * c.loop-i.i ≡ 64 * (c.loop-i.i - 1 + 1) = omega arith in
    record { book_value = (c.requires.0, omega (arith, c.agreements_of-n.ensures)); plates_from = rw e at c.loop-i.invariant.0 }

pub loop-i-preserved : goal.loop-i-preserved
loop-i-preserved c = (c.enter_body.ensures, omega arith, search rules)

pub returns : goal.returns
returns c =
    let e : 64 * c.loop-i.i ≡ 0 = omega arith in
    rw e at c.loop-i.invariant.0

pub overflow_mul-n : goal.overflow_mul-n
overflow_mul-n c = omega (arith, c.agreements_of-n.ensures, (whole_is width _ c.requires.0).headed.few)
