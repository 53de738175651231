use mathlib.Core.Path.{refl, sym, ◌∙◌}
use mathlib.Core.Bool.{false≢true}
use lib.ListN.{length}
use borrow.Author.Tests.{eq-eqb, ne_eqb}
use Rattle.debits.specs.FormLaws.{debits_told}
use Rattle.debits.proofs.form.debits_sound.Goals as goal
use Rattle.debits.proofs.form.debits_sound.Goals.{then-n-marks, else-n-marks}

pub returns-then-lines_sound : goal.returns-then-lines_sound
returns-then-lines_sound c =
    let told = debits_told c.args.debits.now c.args.marks.now c.in-Some.n (sym c.line_count.ensures ∙ c.in-Some.is) in
    rw told
    (elim c.if-n-marks.branch [
      | then-n-marks w ↦ rw (eq-eqb c.in-Some.n (length c.args.marks.now) w.if-n-marks.true, sym w.lines_sound.ensures ∙ sym w.value-is ∙ c.if-lines_sound.true) c.marks_sound.ensures
      | else-n-marks w ↦ absurd (false≢true (sym (ne_eqb c.in-Some.n (length c.args.marks.now) w.if-n-marks.false) ∙ sym w.value-is ∙ c.if-lines_sound.true))
    ])

pub returns-else-lines_sound : goal.returns-else-lines_sound
returns-else-lines_sound c =
    let told = debits_told c.args.debits.now c.args.marks.now c.in-Some.n (sym c.line_count.ensures ∙ c.in-Some.is) in
    rw (told, c.if-lines_sound.false)
    (elim c.if-n-marks.branch [
      | then-n-marks w ↦ rw (eq-eqb c.in-Some.n (length c.args.marks.now) w.if-n-marks.true, sym w.lines_sound.ensures ∙ sym w.value-is ∙ c.if-lines_sound.false) refl
      | else-n-marks w ↦ rw (ne_eqb c.in-Some.n (length c.args.marks.now) w.if-n-marks.false) refl
    ])
