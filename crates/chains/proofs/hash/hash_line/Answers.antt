use native.Mathlib.Omega.{arith}
use Prim.Native.Nat.{ℕ}
use mathlib.Core.Path.{◌≡◌, sym, ap, ◌∙◌}
use mathlib.Core.List.{List}
use Rattle.lines.specs.Spans.{span_count, span_of, span_within}
use Rattle.chains.specs.Hash.{mix_text, folded, hash_of}
use Rattle.chains.specs.HashLaws.{spans_zero, spans_suc}
use Rattle.chains.proofs.hash.hash_line.Goals as goal

pub loop-columns-init : goal.loop-columns-init
loop-columns-init c = (sym (spans_zero _ _), omega arith)

pub field-requires : goal.field-requires
field-requires c =
    let w = span_within _ _ c.requires c.loop-columns.columns-index (omega arith) in
    record { first = w.low; order = w.order; last = w.high }

pub loop-columns-preserved : goal.loop-columns-preserved
loop-columns-preserved c =
    let s = c.args.spans.now in
    let line = c.args.line.now in (
      c.mix_text-h.ensures.value
          ∙ ap (λ (t : List ℕ). mix_text c.loop-columns.h t) c.field.ensures
          ∙ ap (λ (x : ℕ). mix_text x (span_of s line c.loop-columns.columns-index)) c.loop-columns.invariant.0
          ∙ sym (spans_suc s line c.loop-columns.columns-index),
      c.mix_text-h.ensures.small,
    )

pub returns : goal.returns
unfolding hash_of
returns c =
    let e : c.loop-columns.columns-index ≡ span_count c.args.spans.now = omega arith in
    record { value = c.folded.ensures.0 ∙ ap folded (rw e at c.loop-columns.invariant.0); small = c.folded.ensures.1 }
