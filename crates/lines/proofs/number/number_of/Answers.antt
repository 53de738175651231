use Rattle.lines.specs.NumberLaws.{digits_written}
use Rattle.lines.proofs.number.number_of.Goals as goal

pub value-requires : goal.value-requires
value-requires c = digits_written _ c.requires.0 c.requires.1
