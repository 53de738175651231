use Rattle.std.proofs.Common.{◌≡◌, ◌++◌, drop}
use Rattle.lines.specs.Below.{table_below}
use Rattle.judging.specs.Judging.{marks_before, word_at}
use Rattle.judging.specs.Steps.{judged_by}
use Rattle.judging.proofs.line.Judging.judge_each.Given as goal

abbrev pub invariant-loop-k : goal.invariant-loop-k
invariant-loop-k l =
    (l.marks ≡ marks_before (judged_by l.self) l.initial.marks l.k)
    × (l.words ≡ table_below l.k (word_at (judged_by l.self) l.initial.marks) ++ drop l.k l.initial.words)
