use Rattle.std.proofs.Common.{arith, sym}
use Rattle.lines.specs.BelowLaws.{all_fails}
use Rattle.tic_parts.specs.Reading.{listed_formed_at, lines_formed}
use Rattle.tic_parts.proofs.body.lines_formed.Goals as goal

pub returns-then-not-listed_formed : goal.returns-then-not-listed_formed
unfolding lines_formed listed_formed_at
returns-then-not-listed_formed c =
    sym (all_fails (listed_formed_at c.args.tic.now) c.args.n c.loop-k.k (omega arith) (rw c.line_of.ensures at (sym c.if-not-listed_formed.ensures)))
