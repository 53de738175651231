-- What a passage with a blank PAN asks, of what was detected. Assumes nothing.
use Rattle.std.specs.Prelude.{false}
use Rattle.cover.specs.Cover.{Asked, asked}
use Rattle.cover.specs.declared.cover.Detected.{Detected}

abbrev pub asked_by : Detected → Asked
asked_by d = asked false d.moment.now d.plate.now d.nation.now
