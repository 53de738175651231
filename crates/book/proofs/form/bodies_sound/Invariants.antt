use Rattle.std.proofs.Common.{◌≡◌, true, ◌≤◌, length}
use Rattle.lines.specs.Below.{all_below}
use Rattle.book.specs.Layout.{width, body_place}
use Rattle.book.specs.Form.{agreement_sound_at}
use Rattle.book.proofs.form.bodies_sound.Given as goal

abbrev pub invariant-loop-i : goal.invariant-loop-i
invariant-loop-i l = (all_below l.i (agreement_sound_at width l.book) ≡ true) × (l.at ≡ body_place width l.book l.i) × (l.at ≤ length l.book)
