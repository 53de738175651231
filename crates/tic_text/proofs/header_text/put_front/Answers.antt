use Rattle.std.proofs.Common.{arith, ap, length}
use Rattle.tic_text.specs.PieceLaws.{joined_length}
use Rattle.tic_text.specs.TextLaws.{part_length}
use Rattle.tic_text.proofs.header_text.put_front.Goals as goal

pub put_texts-requires : goal.put_texts-requires
put_texts-requires c =
    let k = c.requires in
    rw (joined_length _) (omega (arith, k.room, k.receiver_long, k.stem_long, k.moment_long, ap length c.field-sender.ensures, part_length 0 6 c.args.received.stem.now (omega (arith, k.stem_long))))
