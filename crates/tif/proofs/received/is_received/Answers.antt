use Rattle.std.proofs.Common.{sym, ap, rules, arith, zero-add, ◌∙◌, ◌*◌, take, drop, length, ℕ, ◌/◌}
use Rattle.lines.specs.BelowSame.{some_same}
use Rattle.lines.specs.OverChunks.{any_chunk}
use Rattle.lines.specs.Rows.{line_of}
use Rattle.lines.specs.Same.{same}
use Rattle.tif.specs.Received.{holds_name, is_received}
use Rattle.tif.proofs.received.is_received.Goals as goal

pub returns : goal.returns
unfolding is_received holds_name line_of
returns c =
    let names = c.args.names.now in
    let name = c.args.name.now in
    any_chunk 35 names (λ slot. same slot name) _ _ _ c.chunks_exact.ensures.rest c.chunks_exact.ensures.size (omega arith) c.chunks_exact.ensures.runs c.any.ensures.runs (λ x b j k. search rules)
    ∙ some_same _ _ (length names / 35) (λ k h. ap (λ (at : ℕ). same (take 35 (drop at names)) name) (sym (zero-add (k * 35))))
