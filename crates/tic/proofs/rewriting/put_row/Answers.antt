use native.Mathlib.Omega.{arith}
use mathlib.Core.Path.{ap, ◌∙◌}
use lib.ListN.{length}
use Rattle.tic_text.specs.TextLaws.{part_length}
use Rattle.tic.proofs.rewriting.put_row.Goals as goal

pub put_listed-requires : goal.put_listed-requires
put_listed-requires c =
    record {
      line_long = omega (arith, ap length c.field.ensures, part_length 0 809 c.args.row.now (omega (arith, c.requires.long)));
      code_long = ap length c.field-2.ensures ∙ part_length 809 2 c.args.row.now (omega (arith, c.requires.long));
      room = c.requires.room;
    }

pub returns : goal.returns
returns c = rw (c.field.ensures, c.field-2.ensures) at c.put_listed.ensures
