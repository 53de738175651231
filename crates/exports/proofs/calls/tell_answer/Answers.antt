use mathlib.Core.Path.{refl}
use Rattle.exports.specs.CallsLaws.{answer_told}
use Rattle.exports.proofs.calls.tell_answer.Goals as goal

pub returns-in-Ok : goal.returns-in-Ok
returns-in-Ok c = answer_told _ _ _ _ _ c.in-Ok.is refl c.put_summary.ensures
