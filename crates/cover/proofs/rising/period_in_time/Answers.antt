use Rattle.std.proofs.Common.{rules, sym, ap, ◌∙◌, ◌≡◌, true, arith, List, [], ℕ, ◌≤◌, ◌-◌, length}
use Rattle.lines.specs.Found.{found_first, found_past}
use Rattle.book.specs.Layout.{width, periods_at, period_of, period_end}
use Rattle.book.specs.LayoutLaws.{period_length}
use Rattle.cover.specs.Cover.{asked, in_time, period_covers, covers_at}
use Rattle.cover.specs.Rising.{OnlyBefore}
use Rattle.cover.specs.RisingLaws.{period_inside, stays_after, only_none, only_one}
use Rattle.cover.proofs.PeriodLaws.{starts_sought, covers_only}
use Rattle.cover.proofs.rising.period_in_time.Goals as goal
use Rattle.cover.proofs.rising.period_in_time.Goals.{After-first_true-started, After-in_time, In_ok-last}

-- each period that is asked for stands in the book, and what starts after the moment stays so
pub first_true-started-requires : goal.first_true-started-requires
first_true-started-requires c κs within =
    (search rules, ((λ i h κs' p e x y u v f g l. ((starts_sought width (omega arith) _ _ c.requires.0 _ c.requires.1).inside i (omega arith), c.requires.1)), ((λ i r h p. search rules), (λ j i h k e. stays_after _ _ _ (starts_sought width (omega arith) _ _ c.requires.0 _ c.requires.1).rising c.args.moment.now c.requires.1 j i h (omega arith) e))))

-- none covers but the last that has started
only : (c : After-first_true-started) (plate nation : List ℕ) →
    let a = c.args in
    OnlyBefore (periods_at a.book.now a.at) c.first_true-started.result (covers_at width a.book.now a.at (asked true a.moment.now plate nation))
only c plate nation =
    covers_only width (omega arith) _ _ c.requires.0 _ c.requires.1 _ (rw c.periods_at.ensures at c.first_true-started.ensures) plate nation

pub returns-in_err-last : goal.returns-in_err-last
returns-in_err-last c plate nation =
    let none = c.in_err-last.ensures in
    c.from_residual.ensures ∙ found_past _ _ (only_none _ _ _ (only (goal.at.returns-in_err-last c).After-first_true-started plate nation) (λ h. absurd (none (omega arith))))

-- that one lies in the book
inside : (c : In_ok-last) → let a = c.args in period_end width a.at c.in_ok-last.last ≤ length a.book.now
inside c =
    let last = c.in_ok-last.ensures in
    period_inside width _ _ c.requires.0 _ (omega (arith, last, (only (goal.at.In_ok-last c).After-first_true-started [] []).within))

pub period_of-requires : goal.period_of-requires
period_of-requires c = inside (goal.at.period_of-requires c).In_ok-last

pub in_time-requires : goal.in_time-requires
in_time-requires c = (ap length c.period_of.ensures ∙ period_length width _ _ _ (inside (goal.at.in_time-requires c).In_ok-last), c.requires.1)

-- whether it covers
told : (c : After-in_time) (plate nation : List ℕ) →
    let a = c.args in
    covers_at width a.book.now a.at (asked true a.moment.now plate nation) (c.first_true-started.result - 1) ≡ c.in_time.result
unfolding covers_at period_covers
told c plate nation =
    let last = c.in_ok-last.ensures in
    ap (λ (j : ℕ). in_time c.args.moment.now (period_of width c.args.book.now c.args.at j)) (sym last.1) ∙ sym (c.in_time.ensures ∙ ap (in_time _) c.period_of.ensures)

pub returns-then-in_time : goal.returns-then-in_time
returns-then-in_time c plate nation =
    let last = c.in_ok-last.ensures in
    let o = only (goal.at.returns-then-in_time c).After-first_true-started plate nation in
    found_first _ _ _ (omega (arith, last, o.within)) (last.1 ∙ only_one _ _ _ o (omega (arith, last)) (told (goal.at.returns-then-in_time c).After-in_time plate nation ∙ c.if-in_time.true))

pub returns : goal.returns
returns c plate nation =
    found_past _ _ (only_none _ _ _ (only (goal.at.returns c).After-first_true-started plate nation) (λ h. told (goal.at.returns c).After-in_time plate nation ∙ c.if-in_time.false))
