use Rattle.lines.specs.Below.{join_below}
use Rattle.lines.specs.Splice.{Put}
use Rattle.tic.specs.Rewriting.{tic_of}
use Rattle.tic_text.specs.Text.{listed_at}
use Rattle.tic.proofs.rewriting.put_rows.Given as goal

abbrev pub invariant-loop-k : goal.invariant-loop-k
invariant-loop-k l = Put (join_below l.k (listed_at (tic_of l.tic))) l.from l.initial.out l.at l.out
