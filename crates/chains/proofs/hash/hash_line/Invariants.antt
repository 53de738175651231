use mathlib.Core.Path.{◌≡◌}
use Prim.Native.Nat.{◌<◌}
use Rattle.chains.specs.Hash.{mix_spans}
use Rattle.chains.proofs.hash.hash_line.Given as goal

abbrev pub invariant-loop-columns : goal.invariant-loop-columns
invariant-loop-columns l = (l.h ≡ mix_spans l.spans l.line l.columns-index) × (l.h < 4294967296)
