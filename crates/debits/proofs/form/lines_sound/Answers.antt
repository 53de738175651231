use native.Mathlib.Omega.{arith}
use mathlib.Core.Path.{◌≡◌, sym, ap, ◌∙◌}
use Rattle.lines.specs.BelowLaws.{all_fails}
use Rattle.debits.specs.Form.{debit_sound, debit_sound_at, lines_sound}
use Rattle.debits.proofs.form.lines_sound.Goals as goal

pub returns-then-not-debit_sound : goal.returns-then-not-debit_sound
unfolding lines_sound debit_sound_at
returns-then-not-debit_sound c =
    let told : debit_sound_at c.args.debits.now c.loop-j.j ≡ c.debit_sound.result = sym (c.debit_sound.ensures ∙ ap debit_sound c.line_of.ensures) in
    sym (all_fails _ _ c.loop-j.j (omega arith) (told ∙ c.if-not-debit_sound.true))
