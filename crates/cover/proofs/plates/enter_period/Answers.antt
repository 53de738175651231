use native.Mathlib.Omega.{arith}
use mathlib.Core.Path.{◌≡◌, ap, ◌∙◌}
use lib.ListN.{length}
use Rattle.book.specs.Layout.{width}
use Rattle.book.specs.LayoutLaws.{period_length}
use Rattle.cover.specs.PlatesLaws.{number_small, stands_in, ends_low, has_hash}
use Rattle.cover.specs.PlateChainLaws.{plates_more}
use Rattle.cover.proofs.plates.enter_period.Goals as goal
use Rattle.cover.proofs.plates.enter_period.Goals.{After-period_of-period}

pub period_of-period-requires : goal.period_of-period-requires
period_of-period-requires c = stands_in _ _ _ _ c.requires.0

-- it is a whole period
long : (c : After-period_of-period) → length c.period_of-period.result.now ≡ 40
long c = ap length c.period_of-period.ensures ∙ period_length width _ _ _ (stands_in _ _ _ _ c.requires.0)

pub field-requires : goal.field-requires
field-requires c = let n = long (goal.at.field-requires c).After-period_of-period in record { first = omega arith; order = omega arith; last = omega arith }

pub field-requires-2 : goal.field-requires-2
field-requires-2 c = let n = long (goal.at.field-requires-2 c).After-period_of-period in record { first = omega arith; order = omega arith; last = omega arith }

pub slot_at-requires : goal.slot_at-requires
slot_at-requires c = ends_low _ _ _ _ c.requires.0

pub enter_ahead-requires : goal.enter_ahead-requires
enter_ahead-requires c =
    (c.hash_two-h.ensures.1, omega (arith, c.slot_at.ensures.1, c.requires.1.long), omega (arith, number_small _ _ _ _ c.requires.0))

pub returns : goal.returns
returns c =
    let p = c.requires in
    plates_more _ _ _ _ p.0 _ _ p.1 _ _
    (c.hash_two-h.ensures.0 ∙ has_hash _ _ _ _ p.0 _ _ _ c.period_of-period.ensures c.field.ensures c.field-2.ensures)
    c.slot_at.ensures.0
    c.enter_ahead.ensures

pub overflow_mul-i : goal.overflow_mul-i
overflow_mul-i c = omega (arith, number_small _ _ _ _ c.requires.0)

pub overflow_add-i : goal.overflow_add-i
overflow_add-i c = omega (arith, number_small _ _ _ _ c.requires.0)
