use Rattle.std.specs.Prelude.{◌≡◌, refl, List, ℕ, length, take}
use Rattle.std.proofs.Common.{ap, ◌∙◌, arith, length-set}
use Rattle.std.proofs.Math.Seq.{take-length}
use Rattle.lines.specs.Splice.{splice}
use Rattle.lines.specs.SpliceLaws.{splice_take_zero, splice_take_more}
use Rattle.lines.proofs.put.put_bytes.Goals as goal

pub loop-i-init : goal.loop-i-init
loop-i-init c = (splice_take_zero _ _ c.args.text.now, refl)

pub loop-i-preserved : goal.loop-i-preserved
loop-i-preserved c =
    let a = c.args in (
      rw c.loop-i.invariant.0 (splice_take_more a.out.now a.at a.text.now c.loop-i.i (omega arith) (omega arith)),
      simp length-set c.loop-i.invariant.1,
    )

pub returns : goal.returns
returns c =
    let a = c.args in
    let e : c.loop-i.i ≡ length a.text.now = omega arith in
    record {
      place = omega arith;
      spliced = c.loop-i.invariant.0 ∙ ap (λ (t : List ℕ). splice a.out.now a.at t) (ap (λ (k : ℕ). take k a.text.now) e ∙ take-length a.text.now);
    }
