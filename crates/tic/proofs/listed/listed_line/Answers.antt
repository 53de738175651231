use Rattle.std.proofs.Common.{sym}
use Rattle.tic.specs.Readable.{read_shows}
use Rattle.tic.proofs.listed.listed_line.Goals as goal

pub listed_place-requires : goal.listed_place-requires
listed_place-requires c = (read_shows _ _ (sym c.in_ok-values.ensures)).0.whole.counted.few
