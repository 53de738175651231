use Rattle.std.proofs.Common.{refl, sym, ◌∙◌}
use Rattle.judge.specs.Call.{call_with}
use Rattle.judge.specs.WholeLaws.{file_refused, no_lines, widths}
use Rattle.judge.proofs.attempt.judge_sound.Goals as goal

pub judge_file-requires : goal.judge_file-requires
judge_file-requires c = record { ready = c.requires; file = sym c.acceptance_of.ensures ∙ c.in-Ok.is }

pub refuse_file-requires : goal.refuse_file-requires
refuse_file-requires c =
    let a = c.args in
    widths (call_with a.inputs a.marks.now a.room a.out.now) c.requires.sound

pub returns-in-Err : goal.returns-in-Err
returns-in-Err c =
    let none = no_lines _ _ (sym c.in-Err.is ∙ c.acceptance_of.ensures) (refl, refl) _ refl in
    file_refused _ c.requires.sound _ none _ _ _ c.refuse_file.ensures
