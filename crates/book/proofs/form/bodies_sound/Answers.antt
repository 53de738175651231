use native.Mathlib.Omega.{arith}
use Prim.Native.Nat.{ℕ, ◌+◌, ◌*◌}
use mathlib.Core.Path.{◌≡◌, sym, ap, ◌∙◌}
use lib.ListN.{length}
use lib.Dec.{eqb}
use Rattle.lines.specs.BelowLaws.{all_zero, all_more, all_fails}
use Rattle.lines.specs.BoolLaws.{and_false_left}
use Rattle.book.specs.Layout.{width, agreements, body_end, body_place}
use Rattle.book.specs.LayoutLaws.{entry_ends, place_zero, place_suc}
use Rattle.book.specs.Form.{agreement_sound, agreement_sound_at, bodies_sound, Body}
use Rattle.book.specs.FormLaws.{agreement_is}
use Rattle.book.proofs.form.bodies_sound.Goals as goal
use Rattle.book.proofs.form.bodies_sound.Goals.{After-agreement_sound, Else-not-agreement_sound}

pub loop-i-init : goal.loop-i-init
loop-i-init c =
    (all_zero _, ap (λ (k : ℕ). 2 + k * 23) c.agreements_of-n.ensures ∙ sym (place_zero width c.args.book.now), omega arith)

pub agreement_sound-requires : goal.agreement_sound-requires
agreement_sound-requires c =
    (omega (arith, entry_ends (agreements c.args.book.now) c.loop-i.i (omega arith)), omega arith)

-- the agreement is tried at the place where its body has to stand
told : (c : After-agreement_sound) →
    c.agreement_sound.result ≡ agreement_sound_at width c.args.book.now c.loop-i.i
unfolding agreement_sound_at
told c = c.agreement_sound.ensures ∙ ap (agreement_sound width _ _) c.loop-i.invariant.1

pub returns-then-not-agreement_sound : goal.returns-then-not-agreement_sound
unfolding bodies_sound
returns-then-not-agreement_sound c =
    sym (and_false_left _ _ (all_fails _ _ c.loop-i.i (omega arith) (sym (told (goal.at.returns-then-not-agreement_sound c).After-agreement_sound) ∙ c.if-not-agreement_sound.true)))

-- the body that was found sound
body : (c : Else-not-agreement_sound) →
    Body width c.args.book.now c.loop-i.at
body c =
    (agreement_is width _ _ c.loop-i.i (sym c.agreement_sound.ensures ∙ c.if-not-agreement_sound.false)).1

pub periods_at-requires : goal.periods_at-requires
periods_at-requires c = (body (goal.at.periods_at-requires c).Else-not-agreement_sound).head

pub overflow_mul-at-in-loop-i : goal.overflow_mul-at-in-loop-i
overflow_mul-at-in-loop-i c = omega (arith, (body (goal.at.overflow_mul-at-in-loop-i c).Else-not-agreement_sound).most, c.periods_at.ensures)

pub overflow_add-at-in-loop-i-2 : goal.overflow_add-at-in-loop-i-2
overflow_add-at-in-loop-i-2 c =
    let b = body (goal.at.overflow_add-at-in-loop-i-2 c).Else-not-agreement_sound in
    omega (arith, b.most, c.periods_at.ensures, b.head)

pub loop-i-preserved : goal.loop-i-preserved
unfolding body_end
loop-i-preserved c =
    let b = c.args.book.now in
    let next : c.loop-i.at + 14 + c.periods_at.result * 40 ≡ body_end width b c.loop-i.at = ap (λ (k : ℕ). c.loop-i.at + 14 + k * 40) c.periods_at.ensures in (
      all_more _ c.loop-i.i c.loop-i.invariant.0 (sym (told (goal.at.loop-i-preserved c).After-agreement_sound) ∙ c.if-not-agreement_sound.false),
      next ∙ ap (body_end width b) c.loop-i.invariant.1 ∙ sym (place_suc width b c.loop-i.i),
      omega (arith, (body (goal.at.loop-i-preserved c).Else-not-agreement_sound).inside, next),
    )

pub returns : goal.returns
unfolding bodies_sound
returns c =
    let b = c.args.book.now in
    let e : c.loop-i.i ≡ agreements b = omega arith in
    rw (rw e at c.loop-i.invariant.0) (ap (λ (k : ℕ). eqb k (length b)) (c.loop-i.invariant.1 ∙ ap (body_place width b) e))
