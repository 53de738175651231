use Rattle.std.proofs.Common.{◌∙◌, arith, []}
use Rattle.lines.specs.Found.{found_is}
use Rattle.book.specs.Layout.{width}
use Rattle.book.specs.FormLaws.{whole_is}
use Rattle.cover.specs.CoverLaws.{body_at}
use Rattle.cover.specs.FoundLaws.{cover_some, cover_none}
use Rattle.cover.proofs.rising.cover_in_time.Goals as goal

pub period_in_time-requires : goal.period_in_time-requires
period_in_time-requires c = (body_at width _ _ _ c.requires.0.sound c.requires.1 c.body_place.ensures, c.requires.0.timed)

pub returns-in_err-j : goal.returns-in_err-j
returns-in_err-j c plate nation = c.from_residual.ensures ∙ cover_none width _ _ _ _ c.body_place.ensures (c.in_err-j.ensures plate nation)

pub overflow_add-result : goal.overflow_add-result
overflow_add-result c = omega (arith, c.requires.1, (whole_is width _ c.requires.0.sound).headed.few)

pub overflow_add-result-2 : goal.overflow_add-result-2
overflow_add-result-2 c =
    let b = body_at width _ _ _ c.requires.0.sound c.requires.1 c.body_place.ensures in
    omega (arith, (found_is _ _ _ (c.in_ok-j.ensures [] [])).1, b.most)

pub returns : goal.returns
returns c plate nation = cover_some width _ _ _ _ _ c.requires.1 c.body_place.ensures (c.in_ok-j.ensures plate nation)
