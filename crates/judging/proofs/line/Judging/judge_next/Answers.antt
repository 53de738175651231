use mathlib.Core.Path.{ap, ◌∙◌}
use Rattle.verdicts.specs.Verdict.{word_of}
use Rattle.judging.proofs.WordLaws.{verdict_fits}
use Rattle.judging.proofs.line.Judging.judge_next.Goals as goal

pub word_of-requires : goal.word_of-requires
word_of-requires c =
    let p = c.requires.0 in
    rw c.judge_line-v.ensures.verdict (verdict_fits _ _ _ p.booked p.few)

pub returns : goal.returns
returns c =
    let w = c.word_of.ensures ∙ ap word_of c.judge_line-v.ensures.verdict in
    record { marked = c.judge_line-v.ensures.marked; worded = cc }
