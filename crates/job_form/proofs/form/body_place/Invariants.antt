use Prim.Native.Nat.{◌+◌, ◌*◌, ◌≤◌}
use mathlib.Core.Path.{◌≡◌}
use Rattle.job_form.specs.Form.{body_place}
use Rattle.job_form.proofs.form.body_place.Given as goal

abbrev pub invariant-loop-i : goal.invariant-loop-i
invariant-loop-i l = (l.at ≡ body_place l.job l.i) × (l.at ≤ 32 + l.i * 4294967296)
