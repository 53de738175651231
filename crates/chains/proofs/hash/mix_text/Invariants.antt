use mathlib.Core.Path.{◌≡◌}
use Prim.Native.Nat.{◌<◌}
use Rattle.chains.specs.Hash.{mix_bytes}
use Rattle.chains.proofs.hash.mix_text.Given as goal

abbrev pub invariant-loop-b : goal.invariant-loop-b
invariant-loop-b l = (l.x ≡ mix_bytes l.h l.text l.b-index) × (l.x < 4294967296)
