use Rattle.std.proofs.Common.{sym, ap, ◌∙◌, arith, Some}
use Rattle.lines.specs.Found.{found_is}
use Rattle.book.specs.Layout.{width}
use Rattle.book.specs.FormLaws.{whole_is}
use Rattle.cover.proofs.PlateCoverLaws.{named_some, named_none, blank_some, blank_none}
use Rattle.cover.proofs.plates.cover_by.Goals as goal

pub returns-in_err-x : goal.returns-in_err-x
returns-in_err-x c =
    c.from_residual.ensures ∙ blank_none _ _ _ _ _ (whole_is width _ c.requires.ready.0.sound) (sym c.all_of.ensures ∙ c.if-all_of.true) c.in_err-x.ensures

pub place_of-requires : goal.place_of-requires
place_of-requires c = omega (arith, (found_is _ _ _ c.in_ok-x.ensures).1, (whole_is width _ c.requires.ready.0.sound).headed.few)

pub returns-then-all_of : goal.returns-then-all_of
returns-then-all_of c =
    ap Some c.place_of.ensures ∙ blank_some _ _ _ _ _ _ (whole_is width _ c.requires.ready.0.sound) (sym c.all_of.ensures ∙ c.if-all_of.true) c.in_ok-x.ensures

pub returns-in_err-agreement_with : goal.returns-in_err-agreement_with
returns-in_err-agreement_with c =
    c.from_residual-in_err-agreement_with.ensures ∙ named_none _ _ _ _ _ (sym c.all_of.ensures ∙ c.if-all_of.false) c.in_err-agreement_with.ensures

pub cover_in_time-requires : goal.cover_in_time-requires
cover_in_time-requires c = (c.requires.ready.0, (found_is _ _ _ c.in_ok-agreement_with.ensures).1)

pub returns : goal.returns
returns c =
    let a = c.args in
    c.cover_in_time.ensures a.detected.plate.now a.detected.nation.now ∙ named_some _ _ _ _ _ _ (sym c.all_of.ensures ∙ c.if-all_of.false) c.in_ok-agreement_with.ensures
