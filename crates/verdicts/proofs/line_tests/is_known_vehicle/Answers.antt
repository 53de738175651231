use Rattle.std.proofs.Common.{arith, drop}
use lib.ListN.{length-take, length-drop}
use Rattle.verdicts.proofs.line_tests.is_known_vehicle.Goals as goal

-- the fuel of a line is three bytes
pub is_known_fuel-requires : goal.is_known_fuel-requires
is_known_fuel-requires c =
    let line = c.args.line.now in
    rw c.field-then-is_emission.ensures (omega (arith, length-take 3 (drop 292 line), length-drop 292 line))
