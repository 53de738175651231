-- The answers of a call, with their numbers and codes on paper. Assumes nothing.
use Rattle.std.specs.Prelude.{ℕ, Result}
use Rattle.answers.specs.declared.answer.CallFault.{CallFault}
use Rattle.answers.specs.declared.answer.CallFault.TheVariants.{FileName, ReceptionMoment, CodeCard, ReceivedNames, Book, OpenDebits, StationTable, Room}
use Rattle.answers.specs.declared.answer.FileAnswer.{FileAnswer}
use Rattle.answers.specs.declared.answer.FileAnswer.TheVariants.{Accepted, PartlyAccepted, AlreadyReceived, CountsDiffer, TotalDiffers, OutOfForm}
use Rattle.answers.specs.declared.answer.Summary.{Summary}

-- what a check of the call finds: nothing, or what is wrong
abbrev pub CallCheck : Type 0
CallCheck = Result (Unit {0}) CallFault

-- what a call is answered: what is told of its file, or what is wrong with it
abbrev pub Answer : Type 0
Answer = Result Summary CallFault

-- E1 to E8
abbrev pub fault_number : CallFault → ℕ
fault_number FileName = 1
fault_number ReceptionMoment = 2
fault_number CodeCard = 3
fault_number ReceivedNames = 4
fault_number Book = 5
fault_number OpenDebits = 6
fault_number StationTable = 8
fault_number Room = 7

-- 00 to 05
abbrev pub answer_code : FileAnswer → ℕ
answer_code Accepted = 0
answer_code PartlyAccepted = 1
answer_code AlreadyReceived = 2
answer_code CountsDiffer = 3
answer_code TotalDiffers = 4
answer_code OutOfForm = 5
