use Rattle.exports.specs.CallsLaws.{call_told}
use Rattle.exports.proofs.calls.quindaf_judge_with.Goals as goal

pub returns : goal.returns
returns c = call_told _ _ _ _ _ _ _ _ _ c.judge_words-answer.ensures c.tell_answer.ensures
