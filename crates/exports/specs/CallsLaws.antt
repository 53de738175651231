-- What the call tells, from what was judged and from the answer that was told. Assumes nothing.
use Rattle.std.specs.Prelude.{◌≡◌, List, ℕ, ◌<◌}
use Rattle.std.proofs.Common.{sym, ap, ◌∙◌, arith}
use Rattle.answers.specs.Answer.{fault_number}
use Rattle.judge.specs.Call.{Call, WordsJudged}
use Rattle.answers.specs.Answer.{Answer}
use Rattle.answers.specs.declared.answer.CallFault.{CallFault}
use Rattle.exports.specs.Numbers.{call_number}
use Rattle.exports.specs.Calls.{summary_after, AnswerTold, CallJudged}

-- a fault's number fits an answer
pub call_fault_small : (fault : CallFault) → fault_number fault < 9
call_fault_small CallFault.FileName = omega arith
call_fault_small CallFault.ReceptionMoment = omega arith
call_fault_small CallFault.CodeCard = omega arith
call_fault_small CallFault.ReceivedNames = omega arith
call_fault_small CallFault.Book = omega arith
call_fault_small CallFault.OpenDebits = omega arith
call_fault_small CallFault.StationTable = omega arith
call_fault_small CallFault.Room = omega arith

pub answer_told : (answer found : Answer) (summary : List ℕ) (r : ℕ) (summary' : List ℕ) → answer ≡ found → r ≡ call_number found → summary' ≡ summary_after found summary → AnswerTold answer summary r summary'
answer_told answer found summary r summary' e n s =
    record {
      number = n ∙ sym (ap call_number e);
      summary_then = s ∙ sym (ap (λ (x : Answer). summary_after x summary) e);
    }

pub call_told : (c : Call) (words summary : List ℕ) (answer : Answer) (r : ℕ) (marks' words' out' summary' : List ℕ) → WordsJudged c words answer marks' words' out' → AnswerTold answer summary r summary' → CallJudged c words summary r marks' words' out' summary'
call_told c words summary answer r marks' words' out' summary' j t =
    record {
      answer = t.number ∙ ap call_number j.answer;
      marks_then = j.marks_then;
      words_then = j.words_then;
      out_then = j.out_then;
      summary_then = t.summary_then ∙ ap (λ (x : Answer). summary_after x summary) j.answer;
    }
