use Prim.Native.Nat.{ℕ}
use mathlib.Core.Path.{ap, ◌∙◌}
use Rattle.chains.specs.Hash.{mix_text, folded, hash_two}
use Rattle.chains.proofs.hash.hash_two.Goals as goal

pub returns : goal.returns
unfolding hash_two
returns c = (
  c.folded.ensures.0 ∙ ap folded c.mix_text-2.ensures.value ∙ ap (λ (x : ℕ). folded (mix_text x c.args.b.now)) c.mix_text.ensures.value,
  c.folded.ensures.1,
)
