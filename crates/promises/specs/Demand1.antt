-- Demand 1. Every file, book and list gets an answer, however damaged. A call refused by number writes no output byte and changes no mark and no record.
-- Assumes nothing.
use Rattle.std.specs.Prelude.{◌≡◌, refl, List, ℕ, ◌≤◌, Err}
use Rattle.std.proofs.Math.Path.{sym}
use Rattle.std.proofs.Common.{◌∙◌, arith}
use Rattle.verdicts.specs.declared.record.Record.{Record}
use Rattle.answers.specs.Answer.{fault_number, answer_code}
use Rattle.judge.specs.Call.{Call, answer_of, marks_of, records_of, out_of, Judged}
use Rattle.judge.specs.Records.{records_to}
use Rattle.answers.specs.Answer.{Answer}
use Rattle.answers.specs.declared.answer.CallFault.{CallFault}
use Rattle.answers.specs.declared.answer.FileAnswer.{FileAnswer}

-- ---- every call has an answer
-- whatever is lent, there is a result that the contract of `judge` allows; nothing is asked of what is lent
pub answered_always : (c : Call) (records : List Record) → Judged c records (answer_of c) (marks_of c) (records_of c records) (out_of c)
answered_always c records = record { answer = refl; marks_then = refl; out_then = refl; records_then = refl }

-- and it is a number from E1 to E8,
pub number_known : (fault : CallFault) → (1 ≤ fault_number fault) × (fault_number fault ≤ 8)
number_known CallFault.FileName = (omega arith, omega arith)
number_known CallFault.ReceptionMoment = (omega arith, omega arith)
number_known CallFault.CodeCard = (omega arith, omega arith)
number_known CallFault.ReceivedNames = (omega arith, omega arith)
number_known CallFault.Book = (omega arith, omega arith)
number_known CallFault.OpenDebits = (omega arith, omega arith)
number_known CallFault.StationTable = (omega arith, omega arith)
number_known CallFault.Room = (omega arith, omega arith)

-- or an acceptance from 00 to 05
pub code_known : (answer : FileAnswer) → answer_code answer ≤ 5
code_known FileAnswer.Accepted = omega arith
code_known FileAnswer.PartlyAccepted = omega arith
code_known FileAnswer.AlreadyReceived = omega arith
code_known FileAnswer.CountsDiffer = omega arith
code_known FileAnswer.TotalDiffers = omega arith
code_known FileAnswer.OutOfForm = omega arith

-- ---- a call refused by number
-- leaves the output, the marks and the records as they were
pub record Untouched (c : Call) (records : List Record) (marks' : List ℕ) (records' : List Record) (out' : List ℕ) : Type 0 where
  pub same_output : out' ≡ c.out
  pub same_marks : marks' ≡ c.marks
  pub same_records : records' ≡ records

module _ (c : Call) (records : List Record) (r : Answer) (marks' : List ℕ) (records' : List Record) (out' : List ℕ) where
  pub refused_leaves_all : Judged c records r marks' records' out' → (fault : CallFault) → r ≡ Err fault → Untouched c records marks' records' out'
  unfolding marks_of out_of records_of records_to
  refused_leaves_all j fault e =
      let a : answer_of c ≡ Err fault = sym j.answer ∙ e in
      record {
        same_output = j.out_then ∙ rw a;
        same_marks = j.marks_then ∙ rw a;
        same_records = j.records_then ∙ rw a;
      }
