use Rattle.std.specs.Prelude.{◌≡◌}
use Rattle.std.proofs.Common.{sym, ◌∙◌, arith}
use Rattle.lines.specs.BelowLaws.{all_zero, all_more, all_fails}
use Rattle.lines.specs.Spans.{span_count, span_agrees, agree_across, span_within}
use Rattle.lines.proofs.spans.agree_across.Goals as goal
use Rattle.lines.proofs.spans.agree_across.Goals.{After-is_same}

pub loop-m-init : goal.loop-m-init
loop-m-init c = all_zero _

pub field-requires : goal.field-requires
field-requires c =
    let w = span_within _ _ c.requires.first c.loop-m.m c.loop-m-test.true in
    record { first = omega arith; order = omega arith; last = omega arith }

pub field-requires-in-loop-m : goal.field-requires-in-loop-m
field-requires-in-loop-m c =
    let w = span_within _ _ c.requires.second c.loop-m.m (omega arith) in
    record { first = omega arith; order = omega arith; last = omega arith }

-- what the comparison of the two fields says of span m
compared : (c : After-is_same) → c.is_same.result ≡ span_agrees c.args.ss.now c.args.a.now c.args.ts.now c.args.b.now c.loop-m.m
unfolding span_agrees
compared c = rw (c.is_same.ensures, c.field.ensures, c.field-in-loop-m.ensures)

pub returns-then-not-is_same : goal.returns-then-not-is_same
unfolding agree_across
returns-then-not-is_same c = sym (all_fails _ _ c.loop-m.m c.loop-m-test.true (sym (compared (goal.at.returns-then-not-is_same c).After-is_same) ∙ c.if-not-is_same.true))

pub loop-m-preserved : goal.loop-m-preserved
loop-m-preserved c = all_more _ c.loop-m.m c.loop-m.invariant (sym (compared (goal.at.loop-m-preserved c).After-is_same) ∙ c.if-not-is_same.false)

pub returns : goal.returns
unfolding agree_across
returns c =
    let e : c.loop-m.m ≡ span_count c.args.ss.now = omega arith in
    sym (rw e at c.loop-m.invariant)
