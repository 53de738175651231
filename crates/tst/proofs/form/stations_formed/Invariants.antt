use mathlib.Core.Path.{◌≡◌}
use mathlib.Core.Bool.{true}
use Rattle.lines.specs.Below.{all_below}
use Rattle.tst.specs.Form.{station_formed_at}
use Rattle.tst.proofs.form.stations_formed.Given as goal

abbrev pub invariant-loop-k : goal.invariant-loop-k
invariant-loop-k l = all_below l.k (station_formed_at l.tst) ≡ true
