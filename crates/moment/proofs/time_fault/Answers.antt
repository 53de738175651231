-- Answered by hand: where a test is wrong, the search takes minutes to give up.
use Rattle.lines.specs.FirstOf.{picked, here, past, none}
use Rattle.lines.specs.Tests.{tests}
use Rattle.moment.specs.Moment.{time_fault}
use Rattle.moment.proofs.time_fault.Goals as goal

pub returns-then-number_in-gt23 : goal.returns-then-number_in-gt23
unfolding time_fault
returns-then-number_in-gt23 c = picked (here (omega tests))

pub returns-then-number_in-gt59 : goal.returns-then-number_in-gt59
unfolding time_fault
returns-then-number_in-gt59 c = picked (past (omega tests) (here (omega tests)))

pub returns-then-number_in-gt59-2 : goal.returns-then-number_in-gt59-2
unfolding time_fault
returns-then-number_in-gt59-2 c = picked (past (omega tests) (past (omega tests) (here (omega tests))))

pub returns : goal.returns
unfolding time_fault
returns c = picked (past (omega tests) (past (omega tests) (past (omega tests) none)))
