use native.Mathlib.Omega.{arith}
use Prim.Native.Nat.{ℕ, ◌+◌}
use borrow.Author.Rules.{rules}
use Rattle.std.proofs.Math.ListN.{length-set}
use Rattle.std.proofs.Common.{◌≡◌, ◌∙◌, ap, replicate, length}
use Rattle.chains.specs.IndexLaws.{ruled_fewer, index_zero, index_more}
use Rattle.chains.proofs.Filled.{filled}
use Rattle.chains.proofs.indexing.index_lines.Goals as goal

pub loop-k-init : goal.loop-k-init
loop-k-init c =
    let long : length c.args.index.now.heads ≡ 4096 = search rules in
    let far : length c.args.index.now.links ≡ 9999 = search rules in
    (index_zero _ _ _ _ (filled 4096 0 c.fill.new.self (c.fill.ensures.after (λ y h. h) ∙ ap (λ (k : ℕ). replicate k 0) long)), c.fill.ensures.len ∙ long, far)

pub enter-requires : goal.enter-requires
enter-requires c = ruled_fewer _ _ _ c.args.rows.count (c.loop-k.k + 1) (omega arith) c.requires

pub loop-k-preserved : goal.loop-k-preserved
loop-k-preserved c =
    let e = c.enter.ensures in
    let i = c.loop-k.invariant in
    (index_more _ _ _ c.loop-k.index c.loop-k.k i.0 _ (omega arith) i.1 e, ap length e.head ∙ length-set _ _ _ ∙ i.1, ap length e.link ∙ length-set _ _ _ ∙ i.2)
