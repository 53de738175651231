use native.Mathlib.Omega.{arith}
use mathlib.Core.Path.{◌≡◌, sym, ap, ◌∙◌}
use mathlib.Core.List.{List, ◌++◌}
use Prim.Native.Nat.{ℕ}
use lib.ListN.{length}
use mathlib.Core.List.{append-nil}
use lib.Seq.{drop-length}
use Rattle.lines.specs.BelowLaws.{table_zero}
use Rattle.judging.specs.Judging.{words_of}
use Rattle.judging.specs.Steps.{judged_by}
use Rattle.judging.specs.StepLaws.{turn, before_zero}
use Rattle.judging.proofs.line.Judging.judge_each.Goals as goal

pub loop-k-init : goal.loop-k-init
loop-k-init c = (sym (before_zero _ _), ap (λ (l : List ℕ). l ++ c.args.words.now) (sym (table_zero _)))

pub judge_next-requires : goal.judge_next-requires
judge_next-requires c =
    let p = c.requires.0 in
    (record { booked = p.booked; owed = omega (arith, p.owed); few = omega (arith, p.few); lined = omega (arith, p.lined) }, omega arith, c.requires.1)

pub loop-k-preserved : goal.loop-k-preserved
loop-k-preserved c =
    let a = c.args in
    let g = c.judge_next in
    turn (judged_by a.self.now) a.marks.now a.words.now c.loop-k.marks c.loop-k.words
    g.new.marks g.new.words c.loop-k.k (omega arith) c.loop-k.invariant.0 c.loop-k.invariant.1 g.ensures

pub returns : goal.returns
unfolding words_of
returns c =
    let e : c.loop-k.k ≡ length c.args.words.now = omega arith in
    record {
      marked = rw e at c.loop-k.invariant.0;
      worded = c.loop-k.invariant.1 ∙ rw (e, drop-length) (append-nil _);
    }
