use native.Mathlib.Omega.{arith}
use Prim.Native.Nat.{ℕ, ◌-◌}
use mathlib.Core.Path.{◌≡◌, sym, ap, ◌∙◌}
use mathlib.Core.List.{List}
use Rattle.lines.specs.Spans.{agree_across}
use Rattle.chains.specs.Index.{agrees_with}
use Rattle.chains.specs.IndexLaws.{line_there, line_spanned}
use Rattle.chains.specs.ChainLaws.{chain_falls}
use Rattle.chains.specs.LastChainLaws.{last_start, last_down, last_seen, last_unseen}
use Rattle.chains.proofs.search.walk.Goals as goal
use Rattle.chains.proofs.search.walk.Goals.{After-agree_across}

-- what the test of a turn says
tested : (c : After-agree_across) →
    let a = c.args in
    agrees_with a.rows.layout a.rows.file.now a.rows.spans.now a.sought.spans.now a.sought.line.now c.in-Some.j ≡ c.agree_across.result
unfolding agrees_with
tested c =
    let a = c.args in
    sym (c.agree_across.ensures ∙ ap (λ (line : List ℕ). agree_across a.rows.spans.now line a.sought.spans.now a.sought.line.now) c.line_of-line.ensures)

pub loop-j-init : goal.loop-j-init
loop-j-init c = last_start _ _ _ _ _ _ _ c.requires

pub line_of-line-requires : goal.line_of-line-requires
line_of-line-requires c =
    line_there _ _ _ c.args.start c.in-Some.j c.requires.ruled (omega arith)

pub agree_across-requires : goal.agree_across-requires
agree_across-requires c =
    let w = c.requires in
    record {
      first = rw c.line_of-line.ensures (line_spanned _ _ _ c.args.start c.in-Some.j w.ruled (omega arith));
      second = w.asked.inside;
      paired = w.asked.paired;
    }

pub returns-then-agree_across : goal.returns-then-agree_across
returns-then-agree_across c =
    let e : c.in-Some.j ≡ c.loop-j.link - 1 = omega arith in
    let t = tested (goal.at.returns-then-agree_across c).After-agree_across ∙ c.if-agree_across.true in
    rw e (sym (last_seen _ _ _ _ _ _ _ c.requires c.loop-j.link c.loop-j.invariant (omega arith) (rw e at t)))

pub loop-j-smaller : goal.loop-j-smaller
loop-j-smaller c =
    let e : c.in-Some.j ≡ c.loop-j.link - 1 = omega arith in
    rw (c.from-link.ensures, e) (chain_falls _ _ _ _ _ _ _ c.requires c.loop-j.link c.loop-j.invariant.on (omega arith))

pub loop-j-preserved : goal.loop-j-preserved
loop-j-preserved c =
    let e : c.in-Some.j ≡ c.loop-j.link - 1 = omega arith in
    let t = tested (goal.at.loop-j-preserved c).After-agree_across ∙ c.if-agree_across.false in
    rw (c.from-link.ensures, e) (last_down _ _ _ _ _ _ _ c.requires c.loop-j.link c.loop-j.invariant (omega arith) (rw e at t))

pub returns : goal.returns
returns c =
    sym (last_unseen _ _ _ _ _ _ _ c.requires c.loop-j.link c.loop-j.invariant (omega (arith, c.in_default.ensures)))
