use Rattle.std.proofs.Common.{rules}
use Rattle.debits_vectors.specs.Held.{holds_sound, holds_none}
use Rattle.debits_vectors.proofs.run_form.Goals as goal

pub returns-then-sound : goal.returns-then-sound
returns-then-sound g c = holds_sound _ _ c.in-Some.size c.in-Some-2.count (search rules) (search rules) (search rules)

pub returns-else-sound : goal.returns-else-sound
returns-else-sound g c = holds_none _ _
