use native.Mathlib.Omega.{arith}
use Rattle.lines.specs.Below.{table_below}
use Rattle.lines.specs.Class.{is_digit, is_capital}
use Rattle.plate.specs.Set.{is_plate_byte, is_small, is_marked_letter}
use Rattle.plate.specs.SetLaws.{plate_entry, table_rule}
use Rattle.plate.proofs.set.is_plate_byte.Goals as goal

pub returns : goal.returns
unfolding table_below plate_entry is_plate_byte is_digit is_capital is_small is_marked_letter
returns c = rw c.from.ensures (table_rule c.args.b (omega arith))
