use native.Mathlib.Omega.{arith}
use Prim.Native.Nat.{◌+◌, ◌-◌, ◌*◌}
use mathlib.Core.Path.{◌≡◌, refl, ap, ◌∙◌}
use borrow.Author.Rules.{rules}
use Rattle.book.specs.Layout.{width, periods_at}
use Rattle.book.specs.FormLaws.{whole_is}
use Rattle.cover.specs.PlateChainLaws.{plates_gap}
use Rattle.cover.proofs.plates.enter_body.Goals as goal

pub periods_at-j-requires : goal.periods_at-j-requires
periods_at-j-requires c = rw c.body_place-at.ensures ((whole_is width _ c.requires.book_value.0).bodies _ c.requires.book_value.1).head

pub loop-j-init : goal.loop-j-init
loop-j-init c =
    let p = c.periods_at-j.ensures ∙ ap (periods_at c.args.book.now) c.body_place-at.ensures in
    (rw p (plates_gap _ (whole_is width _ c.requires.book_value.0) _ _ c.requires.book_value.1 c.requires.plates_from), omega (arith, c.periods_at-j.ensures), refl)

pub enter_period-requires : goal.enter_period-requires
enter_period-requires c =
    let e : 64 * c.args.i + c.loop-j.j ≡ 64 * c.args.i + (c.loop-j.j - 1) + 1 = omega arith in
    (record { sound = c.requires.book_value.0; agreement = c.requires.book_value.1; place = c.body_place-at.ensures; period = omega arith }, rw e at c.loop-j.invariant.0)

pub loop-j-preserved : goal.loop-j-preserved
loop-j-preserved c = (c.enter_period.ensures, omega arith, search rules)

pub returns : goal.returns
returns c =
    let i = c.args.i in
    let e : 64 * i + c.loop-j.j ≡ 64 * i = omega arith in
    rw e at c.loop-j.invariant.0
