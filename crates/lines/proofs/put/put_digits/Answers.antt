use Rattle.std.specs.Prelude.{◌-◌, ◌/◌, ◌%◌, ◌+◌, List, ℕ}
use Rattle.std.proofs.Common.{sym, ap, ◌∙◌, arith, length-set}
use Rattle.lines.specs.Number.{digits_of}
use Rattle.lines.specs.NumberLaws.{digits_pred, digits_none, digits_length}
use Rattle.lines.specs.Splice.{splice}
use Rattle.lines.specs.SpliceLaws.{splice_back, splice_nil}
use Rattle.lines.proofs.put.put_digits.Goals as goal

pub loop-i-preserved : goal.loop-i-preserved
loop-i-preserved c =
    let o = c.loop-i.out in
    let at = c.args.at in
    let j = c.loop-i.i in
    let v = c.loop-i.rest in
    let front = digits_of (j - 1) (v / 10) in (
      splice_back o at front (48 + v % 10) (at + (j - 1)) (omega (arith, digits_length (j - 1) (v / 10))) (omega (arith, digits_length (j - 1) (v / 10)))
          ∙ ap (λ (t : List ℕ). splice o at t) (sym (digits_pred j v (omega arith)))
          ∙ c.loop-i.invariant.0,
      simp length-set c.loop-i.invariant.1,
    )

pub returns : goal.returns
returns c =
    record {
      place = omega (arith, digits_length c.args.width c.args.value);
      spliced =
          sym (splice_nil c.loop-i.out c.args.at)
          ∙ ap (λ (t : List ℕ). splice c.loop-i.out c.args.at t) (sym (digits_none c.loop-i.i c.loop-i.rest (omega arith)))
          ∙ c.loop-i.invariant.0;
    }
