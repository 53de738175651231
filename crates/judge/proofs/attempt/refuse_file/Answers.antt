use Rattle.std.proofs.Common.{◌≡◌, Err, ap, sym, ◌∙◌}
use Rattle.answers.specs.Told.{file_answer, refused_file}
use Rattle.answers.specs.declared.answer.FileAnswer.{FileAnswer}
use Rattle.judge.specs.WholeLaws.{file_small, file_room, file_written}
use Rattle.judge.proofs.attempt.refuse_file.Goals as goal
use Rattle.judge.proofs.attempt.refuse_file.Goals.{After-summarize_refused-s}

-- what is told is of the file's own fault
told : (c : After-summarize_refused-s) → c.summarize_refused-s.result ≡ refused_file (file_answer (Err c.args.fault) 0) c.args.inputs.tif.now
told c = c.summarize_refused-s.ensures ∙ ap (λ (a : FileAnswer). refused_file a c.args.inputs.tif.now) c.from.ensures

pub returns-then-is_too_small : goal.returns-then-is_too_small
returns-then-is_too_small c =
    file_small _ _ _ _ _ _ _ _ (told (goal.at.returns-then-is_too_small c).After-summarize_refused-s) (sym c.is_too_small.ensures ∙ c.if-is_too_small.true)

pub put_tic-requires : goal.put_tic-requires
put_tic-requires c =
    file_room _ _ _ _ _ _ _ _ (told (goal.at.put_tic-requires c).After-summarize_refused-s) c.requires (sym c.is_too_small.ensures ∙ c.if-is_too_small.false) _ c.head_of.ensures

pub returns : goal.returns
returns c =
    file_written _ _ _ _ _ _ _ _ (told (goal.at.returns c).After-summarize_refused-s) (sym c.is_too_small.ensures ∙ c.if-is_too_small.false) _ _ c.head_of.ensures c.sums_told.ensures _ _ c.put_tic.ensures
