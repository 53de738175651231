use Rattle.std.proofs.Common.{rules, subst, sym}
use Rattle.std.specs.Io.KnownBytes.{Consumes}
use Rattle.std.proofs.KnownBytes.{Consumes-trans}
use Rattle.buffers.proofs.Fronts.{filled_further}
use Rattle.buffers.proofs.reading.read_full.Goals as goal

-- the bytes of this read stand behind those of the reads before
pub loop-done-preserved : goal.loop-done-preserved
loop-done-preserved g c =
    let grown = filled_further c.loop-done.done _ c.in_ok-n.n c.loop-done.buf c.read.new.buf c.loop-done.invariant.in_room c.in_ok-n.ensures.bound.0 in
    record {
      same_room = search rules;
      in_room = search rules;
      read = subst (Consumes _ _) (sym grown) (Consumes-trans _ _ _ _ _ c.loop-done.invariant.read c.in_ok-n.ensures.bytes.0);
    }
