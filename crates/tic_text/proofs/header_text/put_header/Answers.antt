use native.Mathlib.Omega.{arith}
use mathlib.Core.List.{◌++◌}
use Rattle.tic_text.specs.PieceLaws.{put_pieces, joined_length}
use Rattle.tic_text.specs.Text.{front_pieces, count_pieces, end_pieces, header_text}
use Rattle.tic_text.specs.TextLaws.{front_width, count_width}
use Rattle.tic_text.proofs.header_text.put_header.Goals as goal

pub put_counts-mid-requires : goal.put_counts-mid-requires
put_counts-mid-requires c =
    let a = c.args in
    let wide = front_width a.received.receiver.now a.received.stem.now a.received.moment.now c.requires.receiver_long c.requires.stem_long c.requires.moment_long in
    omega (arith, joined_length (front_pieces a.received.receiver.now a.received.stem.now a.received.moment.now), wide)

pub put_end-requires : goal.put_end-requires
put_end-requires c =
    let a = c.args in
    let wide = front_width a.received.receiver.now a.received.stem.now a.received.moment.now c.requires.receiver_long c.requires.stem_long c.requires.moment_long in
    omega (arith, joined_length (front_pieces a.received.receiver.now a.received.stem.now a.received.moment.now), wide, joined_length (count_pieces a.head), count_width a.head)

pub returns : goal.returns
unfolding header_text
returns c =
    let a = c.args in
    let front = front_pieces a.received.receiver.now a.received.stem.now a.received.moment.now in
    let wide = front_width a.received.receiver.now a.received.stem.now a.received.moment.now c.requires.receiver_long c.requires.stem_long c.requires.moment_long in
    let p = c.put_front-mid in
    let q = c.put_counts-mid in
    let r = c.put_end in
    put_pieces (front ++ count_pieces a.head) (end_pieces a.head.acceptance) a.at q.result r.result a.out.now q.new.out r.new.out (omega (arith, wide, count_width a.head))
    (put_pieces front (count_pieces a.head) a.at p.result q.result a.out.now p.new.out q.new.out (omega (arith, wide)) p.ensures q.ensures)
    r.ensures
