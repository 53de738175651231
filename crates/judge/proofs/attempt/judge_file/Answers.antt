use native.Mathlib.Omega.{arith}
use mathlib.Core.Path.{sym, ◌∙◌}
use Rattle.judge.specs.SoundLaws.{lines_ready}
use Rattle.judge.specs.FileLaws.{sound, tried, words_long, sums, marks_front, told, known, committable, written}
use Rattle.judge.specs.AnswerLaws.{no_room, answered}
use Rattle.judge.proofs.attempt.judge_file.Goals as goal

pub judge_all-requires : goal.judge_all-requires
judge_all-requires c =
    lines_ready _ (sound _ _ _ c.requires) c.args.whole c.requires.file c.args.words.now c.requires.ready.room

pub slice_bounds-summarize-end : goal.slice_bounds-summarize-end
slice_bounds-summarize-end c =
    omega (arith, words_long _ _ _ c.requires _ _ c.judge_all.ensures)

pub summarize-s-requires : goal.summarize-s-requires
summarize-s-requires c =
    sums _ _ _ c.requires _ _ c.judge_all.ensures

pub returns-then-is_too_small : goal.returns-then-is_too_small
returns-then-is_too_small c =
    no_room _ c.requires.ready.sound c.summarize-s.result (told _ _ _ c.requires _ _ c.judge_all.ensures _ c.summarize-s.ensures) _ _
    (tried _ _ _ c.requires _ _ c.judge_all.ensures) (sym c.is_too_small.ensures ∙ c.if-is_too_small.true)

pub slice_bounds-commit-end : goal.slice_bounds-commit-end
slice_bounds-commit-end c =
    omega (arith, words_long _ _ _ c.requires _ _ c.judge_all.ensures)

pub commit-requires : goal.commit-requires
commit-requires c =
    committable _ _ _ c.requires _ _ c.judge_all.ensures _ c.summarize-s.ensures (sym c.is_too_small.ensures ∙ c.if-is_too_small.false)

pub returns : goal.returns
returns c =
    let f = c.judge_all.ensures in
    let e = c.summarize-s.ensures in
    answered _ c.requires.ready.sound _ (told _ _ _ c.requires _ _ f _ e) _ _ (tried _ _ _ c.requires _ _ f) (sym c.is_too_small.ensures ∙ c.if-is_too_small.false) _ _
    (c.commit.ensures.marks_then ∙ marks_front _ _ _ c.requires _ _ f) (written _ _ _ c.requires _ _ f _ e _ _ _ c.commit.ensures) (known _ _ _ c.requires _ _ f _ e)
