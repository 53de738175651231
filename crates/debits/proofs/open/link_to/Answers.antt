use native.Mathlib.Omega.{arith}
use mathlib.Core.Path.{◌≡◌, refl, sym, ◌∙◌}
use lib.ListN.{length}
use Rattle.chains.specs.Ahead.{link_at}
use Rattle.debits.specs.Taking.{place_taken}
use Rattle.lines.specs.Below.{all_below}
use Rattle.lines.specs.Spans.{spans_in, span_in}
use Rattle.chains.specs.HashLaws.{hash_small}
use Rattle.chains.specs.AheadLaws.{way_start, way_hit, way_rises, way_more, way_none}
use Rattle.debits.specs.OpenLaws.{free_has}
use Rattle.debits.proofs.open.link_to.Goals as goal

pub hash_line-at-requires : goal.hash_line-at-requires
unfolding spans_in span_in all_below
hash_line-at-requires c =
    let credit : length c.args.credit.now ≡ 810 = omega arith in
    rw credit

pub loop-j-init : goal.loop-j-init
loop-j-init c = rw c.hash_line-at.ensures.value (way_start _ _ _ _ c.requires.1.chained _ _ (free_has _ _ _) (hash_small _ _))

pub next_ahead-requires : goal.next_ahead-requires
next_ahead-requires c = omega (arith, c.requires.1.long, c.loop-j.invariant.stands.within)

pub returns-then-free_for : goal.returns-then-free_for
unfolding place_taken
returns-then-free_for c =
    let is = c.in-Some.ensures.0 in
    record {
      stands = c.loop-j.invariant.stands;
      leads = sym is ∙ sym (way_hit _ _ _ _ c.requires.1.chained _ _ (free_has _ _ _) c.loop-j.at c.in-Some.j c.loop-j.invariant is c.in-Some.ensures.1 (sym c.free_for.ensures ∙ c.if-free_for.true));
    }

pub overflow_add-at : goal.overflow_add-at
overflow_add-at c = omega arith

pub loop-j-smaller : goal.loop-j-smaller
loop-j-smaller c =
    omega (arith, way_rises _ _ _ _ c.requires.1.chained _ _ (free_has _ _ _) c.loop-j.at c.in-Some.j c.loop-j.invariant c.in-Some.ensures.0 c.in-Some.ensures.1)

pub loop-j-preserved : goal.loop-j-preserved
loop-j-preserved c =
    way_more _ _ _ _ c.requires.1.chained _ _ (free_has _ _ _) c.loop-j.at c.in-Some.j c.loop-j.invariant c.in-Some.ensures.0 c.in-Some.ensures.1
    (sym c.free_for.ensures ∙ c.if-free_for.false)

pub returns : goal.returns
unfolding place_taken
returns c =
    record {
      stands = c.loop-j.invariant.stands;
      leads = sym (way_none _ _ _ _ c.requires.1.chained _ _ (free_has _ _ _) c.loop-j.at (link_at c.args.links.now c.loop-j.at) c.loop-j.invariant refl c.in_default.ensures);
    }
