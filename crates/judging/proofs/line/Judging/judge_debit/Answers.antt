use Rattle.std.proofs.Common.{Option, None}
use mathlib.Core.Path.{◌≡◌, sym, ap, ◌∙◌}
use Rattle.tif.specs.Body.{line_at}
use Rattle.cover.specs.declared.cover.Place.{Place}
use Rattle.judging.specs.Judging.{repeated_at, cover_on, covered_by, debit_verdict}
use Rattle.judging.proofs.line.Judging.judge_debit.Goals as goal
use Rattle.judging.proofs.line.Judging.judge_debit.Goals.{After-cover_on}

pub returns-then-is_repeated : goal.returns-then-is_repeated
returns-then-is_repeated c =
    let e = sym c.is_repeated.ensures ∙ c.if-is_repeated.true in
    sym (rw e)

-- what covers line k
told : (c : After-cover_on) → c.cover_on.result ≡ cover_on c.args.self.now.book.now (line_at c.args.self.now.tif.now c.args.k)
told c = c.cover_on.ensures ∙ ap (cover_on _) c.tif_line.ensures

-- once no earlier line agrees, what covers the line decides
decides : (c : After-cover_on) (cover : Option Place) → c.cover_on.result ≡ cover
    → let a = c.args in covered_by cover ≡ debit_verdict (repeated_at a.self.now.tif.now a.k) (cover_on a.self.now.book.now (line_at a.self.now.tif.now a.k))
decides c cover is =
    let e = sym c.is_repeated.ensures ∙ c.if-is_repeated.false in
    ap covered_by (sym is ∙ told c) ∙ sym (rw e)

pub returns-in-Some : goal.returns-in-Some
returns-in-Some c = decides (goal.at.returns-in-Some c).After-cover_on _ c.in-Some.is

pub returns-in-None : goal.returns-in-None
returns-in-None c = decides (goal.at.returns-in-None c).After-cover_on None (cc)
