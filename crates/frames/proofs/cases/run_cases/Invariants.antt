-- Where the input was known to be empty it is so still, and no case wrote; and as many cases ran as turns were taken.
use Rattle.std.proofs.Common.{◌≡◌, [], Some}
use Rattle.frames.specs.Runs.{state_of}
use Rattle.frames.proofs.Running.{Ran}
use Rattle.frames.proofs.cases.run_cases.Given as goal

abbrev pub invariant-loop : goal.invariant-loop
invariant-loop g l =
    record {
      callable : goal.F-IsAlwaysCallable g l.run_case;
      empty : g.R.Read.remaining l.initial.from ≡ Some [] → (g.R.Read.remaining l.from ≡ Some []) × (g.W.Write.contents l.to ≡ g.W.Write.contents l.initial.to);
      ran : Ran g.R.Read.remaining g.F.FnMut (state_of l.initial.from l.initial.to l.initial.run_case) (state_of l.from l.to l.run_case) l.counter;
    }
