use Rattle.std.proofs.Common.{sym, ◌∙◌}
use Rattle.lines.specs.Found.{found_is}
use Rattle.cover.proofs.PlateCoverLaws.{named_some, named_none, blank_first}
use Rattle.cover.proofs.cover.cover_at.Goals as goal

pub returns-then-all_of : goal.returns-then-all_of
returns-then-all_of c = c.first_cover.ensures ∙ blank_first _ _ _ _ _ (sym c.all_of.ensures ∙ c.if-all_of.true)

pub returns-in_err-agreement_of : goal.returns-in_err-agreement_of
returns-in_err-agreement_of c = c.from_residual.ensures ∙ named_none _ _ _ _ _ (sym c.all_of.ensures ∙ c.if-all_of.false) c.in_err-agreement_of.ensures

pub cover_in_time-requires : goal.cover_in_time-requires
cover_in_time-requires c = (c.requires.0, (found_is _ _ _ c.in_ok-agreement_of.ensures).1)

pub returns : goal.returns
returns c =
    let a = c.args in
    c.cover_in_time.ensures a.detected.plate.now a.detected.nation.now ∙ named_some _ _ _ _ _ _ (sym c.all_of.ensures ∙ c.if-all_of.false) c.in_ok-agreement_of.ensures
