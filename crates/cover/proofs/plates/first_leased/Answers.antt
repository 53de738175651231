use native.Mathlib.Omega.{arith}
use Prim.Native.Nat.{ℕ, ◌+◌, ◌*◌, ◌/◌, ◌%◌, ◌<◌}
use mathlib.Core.Path.{◌≡◌, refl, sym, ap, ◌∙◌}
use mathlib.Core.Bool.{Bool, true, false}
use mathlib.Core.List.{List}
use lib.ListN.{length, get_or}
use Rattle.book.specs.Layout.{width, agreements, period_of}
use Rattle.book.specs.LayoutLaws.{period_length}
use Rattle.book.specs.FormLaws.{whole_is}
use Rattle.std.proofs.Common.{subst}
use Rattle.chains.specs.Ahead.{link_at}
use Rattle.chains.specs.Hash.{hash_two}
use Rattle.cover.specs.Cover.{asked, period_covers}
use Rattle.cover.specs.Detected.{asked_by}
use Rattle.lines.specs.Found.{found_first, found_past}
use Rattle.cover.specs.Plates.{numbers_of, body_for, numbered, period_for, slot_at, covers_number, PeriodAt, PlatesIndexed, WayTo}
use Rattle.cover.specs.PlatesLaws.{number_at, number_covers, stands_in, ends_low}
use Rattle.cover.specs.PlateChainLaws.{to_start, to_number, to_hit, to_more, to_past}
use Rattle.cover.proofs.plates.first_leased.Goals as goal
use Rattle.cover.proofs.plates.first_leased.Goals.{After-body_place-at, After-plate_covers, After-slot_at-link, In-Some}

pub agreements_of-n-requires : goal.agreements_of-n-requires
agreements_of-n-requires c = (whole_is width _ c.requires.0.sound).headed.enough

pub overflow_mul-n : goal.overflow_mul-n
overflow_mul-n c = omega (arith, c.agreements_of-n.ensures, (whole_is width _ c.requires.0.sound).headed.few)

pub loop-x-init : goal.loop-x-init
unfolding link_at
loop-x-init c = (to_start _ _ _ _ _ c.requires.1 _ _ c.hash_two-link.ensures.0 refl, omega (arith, c.hash_two-link.ensures.1, c.requires.1.long))

pub next_ahead-requires : goal.next_ahead-requires
next_ahead-requires c = c.loop-x.invariant.1

-- the numbers that the loop goes through
bound : (book : List ℕ) (k x : ℕ) → k ≡ agreements book → x < 64 * k → x < numbers_of book
bound book k x e h = let f = ap (λ (i : ℕ). 64 * i) e in omega arith

-- in the loop x is the number of a period
number : (book links moment plate nation : List ℕ) (k x : ℕ) → PlatesIndexed book links → WayTo book links (asked false moment plate nation) (hash_two plate nation) x
    → k ≡ agreements book → x < 64 * k → numbered book x ≡ true
number book links moment plate nation k x i w e h = to_number book links moment plate nation i x w (bound book k x e h)

-- what the test of a turn says
told : (book moment plate nation : List ℕ) (x at : ℕ) (period : List ℕ) (t : Bool) → numbered book x ≡ true → at ≡ body_for book x
    → period ≡ period_of width book at (x % 64) → t ≡ period_covers (asked false moment plate nation) period
    → covers_number book (asked false moment plate nation) x ≡ t
unfolding period_for
told book moment plate nation x at period t n a p e =
    let q = asked false moment plate nation in
    number_covers book q x n ∙ sym (e ∙ ap (period_covers q) (p ∙ ap (λ (i : ℕ). period_of width book i (x % 64)) a))

-- the number to which the link leads is on the way
way : (c : In-Some) → let a = c.args in WayTo a.book.now a.links.now (asked_by a.detected) (hash_two a.detected.plate.now a.detected.nation.now) c.in-Some.x
way c =
    let a = c.args in
    subst (WayTo a.book.now a.links.now (asked_by a.detected) (hash_two a.detected.plate.now a.detected.nation.now)) (sym c.in-Some.ensures.0) c.loop-x.invariant.0

-- and one of a period
there : (c : In-Some) → numbered c.args.book.now c.in-Some.x ≡ true
there c = number _ _ _ _ _ _ c.in-Some.x c.requires.1 (way c) c.agreements_of-n.ensures c.in-Some.ensures.1

pub body_place-at-requires : goal.body_place-at-requires
body_place-at-requires c =
    let p = number_at c.args.book.now c.in-Some.x _ c.requires.0.sound (there (goal.at.body_place-at-requires c).In-Some) refl in
    (p.sound, p.agreement)

-- the period of that number
period : (c : After-body_place-at) → PeriodAt c.args.book.now (c.in-Some.x / 64) c.body_place-at.result (c.in-Some.x % 64)
period c = number_at _ c.in-Some.x _ c.requires.0.sound (there (goal.at.After-body_place-at c).In-Some) c.body_place-at.ensures

pub period_of-requires : goal.period_of-requires
period_of-requires c = stands_in _ _ _ _ (period (goal.at.period_of-requires c).After-body_place-at)

pub plate_covers-requires : goal.plate_covers-requires
plate_covers-requires c =
    (ap length c.period_of.ensures ∙ period_length width _ _ _ (stands_in _ _ _ _ (period (goal.at.plate_covers-requires c).After-body_place-at)), c.requires.0.timed)

-- whether it covers
holds : (c : After-plate_covers) → covers_number c.args.book.now (asked_by c.args.detected) c.in-Some.x ≡ c.plate_covers.result
holds c = told _ _ _ _ c.in-Some.x _ _ _ (there (goal.at.After-plate_covers c).In-Some) c.body_place-at.ensures c.period_of.ensures c.plate_covers.ensures

pub returns-then-plate_covers : goal.returns-then-plate_covers
returns-then-plate_covers c =
    let l = bound _ _ c.in-Some.x c.agreements_of-n.ensures c.in-Some.ensures.1 in
    found_first _ _ c.in-Some.x l
    (to_hit _ _ _ _ _ c.requires.1 c.in-Some.x (way (goal.at.returns-then-plate_covers c).In-Some) l (holds (goal.at.returns-then-plate_covers c).After-plate_covers ∙ c.if-plate_covers.true))

pub slot_at-link-requires : goal.slot_at-link-requires
slot_at-link-requires c = ends_low _ _ _ _ (period (goal.at.slot_at-link-requires c).After-body_place-at)

-- one turn: the next number, which is greater
on : (c : After-slot_at-link) →
    let a = c.args in
    WayTo a.book.now a.links.now (asked_by a.detected) (hash_two a.detected.plate.now a.detected.nation.now) (link_at a.links.now (4096 + c.slot_at-link.result)) × (c.in-Some.x < link_at a.links.now (4096 + c.slot_at-link.result))
unfolding link_at
on c =
    let a = c.args in
    to_more _ _ _ _ _ c.requires.1 c.in-Some.x (way (goal.at.After-slot_at-link c).In-Some) (bound _ _ c.in-Some.x c.agreements_of-n.ensures c.in-Some.ensures.1)
    (holds (goal.at.After-slot_at-link c).After-plate_covers ∙ c.if-plate_covers.false) _
    (ap (λ (s : ℕ). get_or a.links.now (4096 + s) 0) c.slot_at-link.ensures.0 ∙ ap (λ (at : ℕ). get_or a.links.now (4096 + slot_at at (c.in-Some.x % 64)) 0) c.body_place-at.ensures)

pub loop-x-smaller : goal.loop-x-smaller
loop-x-smaller c = omega (arith, c.in-Some.ensures.0, c.in-Some.ensures.1, (on (goal.at.loop-x-smaller c).After-slot_at-link).1)

pub loop-x-preserved : goal.loop-x-preserved
loop-x-preserved c = ((on (goal.at.loop-x-preserved c).After-slot_at-link).0, omega (arith, c.slot_at-link.ensures.1, c.requires.1.long))

pub returns : goal.returns
returns c =
    let f = ap (λ (i : ℕ). 64 * i) c.agreements_of-n.ensures in
    let past = c.in_default.ensures in
    found_past _ _ (to_past _ _ _ _ _ c.requires.1 _ c.loop-x.invariant.0 (omega arith))
