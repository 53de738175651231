use Rattle.std.proofs.Common.{arith}
use Rattle.tic_text.specs.PieceLaws.{joined_length}
use Rattle.tic_text.specs.Text.{listed_pieces, listed_text}
use Rattle.tic_text.specs.TextLaws.{part_length}
use Rattle.tic_text.proofs.text.put_listed.Goals as goal

pub put_texts-requires : goal.put_texts-requires
put_texts-requires c =
    let line = c.args.line.now in
    let k = c.requires in
    rw c.field.ensures (omega (arith, k.room, k.code_long, joined_length (listed_pieces line c.args.code.now), part_length 1 808 line (omega (arith, k.line_long))))

pub returns : goal.returns
unfolding listed_text
returns c = rw c.field.ensures at c.put_texts.ensures
