use mathlib.Core.Path.{◌≡◌}
use mathlib.Core.Bool.{true}
use Rattle.lines.specs.Below.{all_below}
use Rattle.debits.specs.Form.{debit_sound_at}
use Rattle.debits.proofs.form.lines_sound.Given as goal

abbrev pub invariant-loop-j : goal.invariant-loop-j
invariant-loop-j l = all_below l.j (debit_sound_at l.debits) ≡ true
