-- The numbers by which the exported functions tell the paper's words. Assumes nothing.
use Rattle.std.specs.Prelude.{ℕ, ◌+◌, Err, Ok, Result}
use Rattle.tif.specs.declared.side.Side.{Side}
use Rattle.tif.specs.declared.side.Side.TheVariants.{Credit, Debit, Neither}
use Rattle.tic_text.specs.Fault.{fault_number}
use Rattle.tic_text.specs.declared.fault.TicFault.{TicFault}
use Rattle.tic_text.specs.declared.values.TicValues.{TicValues}
use Rattle.tic.specs.declared.rewriting.RewriteFault.{RewriteFault}
use Rattle.tic.specs.declared.rewriting.RewriteFault.TheVariants.{Unreadable, TooShort}
use Rattle.answers.specs.Answer as call
use Rattle.answers.specs.Answer.{Answer}
use Rattle.answers.specs.declared.answer.CallFault.TheVariants.{Room}

-- `000`, `CRE`, `DEB`
abbrev pub side_number : Side → ℕ
side_number Neither = 0
side_number Credit = 1
side_number Debit = 2

-- E1 to E8, and 0 for a call that is answered
abbrev pub call_number : Answer → ℕ
call_number (Err fault) = call.fault_number fault
call_number (Ok s) = 0

-- T1 to T5, and 0 for a TIC that reads
abbrev pub reading_number : Result TicValues TicFault → ℕ
reading_number (Err fault) = fault_number fault
reading_number (Ok v) = 0

-- T1 to T5; E7 as 100 more than its number, since it is a call's and not a TIC's; 0 for a TIC that was written
abbrev pub rewriting_number : Result ℕ RewriteFault → ℕ
rewriting_number (Err (Unreadable fault)) = fault_number fault
rewriting_number (Err TooShort) = 100 + call.fault_number Room
rewriting_number (Ok n) = 0
