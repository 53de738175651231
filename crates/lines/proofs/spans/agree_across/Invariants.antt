use Rattle.std.specs.Prelude.{◌≡◌, true}
use Rattle.lines.specs.Below.{all_below}
use Rattle.lines.specs.Spans.{span_agrees}
use Rattle.lines.proofs.spans.agree_across.Given as goal

abbrev pub invariant-loop-m : goal.invariant-loop-m
invariant-loop-m l = all_below l.m (span_agrees l.ss l.a l.ts l.b) ≡ true
