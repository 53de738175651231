use mathlib.Core.Path.{◌≡◌}
use lib.ListN.{length}
use Rattle.chains.specs.Index.{Indexed}
use Rattle.chains.proofs.indexing.index_lines.Given as goal

abbrev pub invariant-loop-k : goal.invariant-loop-k
invariant-loop-k l = Indexed l.rows.layout l.rows.file.now l.rows.spans.now l.k l.index × (length l.index.heads ≡ 4096) × (length l.index.links ≡ 9999)
