use Rattle.std.specs.Prelude.{◌≡◌, ℕ, List, length, take}
use mathlib.Core.Path.{refl, ap, ◌∙◌}
use borrow.Author.Rules.{rules}
use lib.Seq.{take_at}
use Rattle.lines.specs.Splice.{splice}
use Rattle.lines.specs.SpliceLaws.{splice_zero}
use Rattle.judge.proofs.attempt.judge_all.Goals as goal

-- the copy's front is the marks
copied : (marks mine copy : List ℕ) → copy ≡ splice mine 0 marks → take (length marks) copy ≡ marks
copied marks mine copy is = ap (λ (l : List ℕ). take (length marks) l) (is ∙ splice_zero mine marks) ∙ take_at marks _ (length marks) refl

pub judge_parts-requires : goal.judge_parts-requires
judge_parts-requires c = (rw (copied _ _ _ c.put_bytes.ensures.spliced) c.requires, search rules)

pub returns : goal.returns
returns c = rw (copied _ _ _ c.put_bytes.ensures.spliced) at c.judge_parts.ensures
