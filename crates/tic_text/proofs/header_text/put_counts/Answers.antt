use native.Mathlib.Omega.{arith}
use mathlib.Core.List.{[], ◌∷◌, ◌++◌}
use Rattle.tic_text.specs.PieceLaws.{put_piece, put_pieces, joined_length}
use Rattle.tic_text.specs.Text.{number_pieces}
use Rattle.tic_text.specs.TextLaws.{number_width, side_length}
use Rattle.tif.specs.Side.{side_text}
use Rattle.tic_text.proofs.header_text.put_counts.Goals as goal

pub put_side-mid-requires : goal.put_side-mid-requires
put_side-mid-requires c =
    let h = c.args.head in
    omega (arith, joined_length (number_pieces h.accepted.0 h.rejected.0), number_width h.accepted.0 h.rejected.0)

pub put_numbers-requires : goal.put_numbers-requires
put_numbers-requires c =
    let h = c.args.head in
    omega (arith, joined_length (number_pieces h.accepted.0 h.rejected.0), number_width h.accepted.0 h.rejected.0, side_length h.side)

pub returns : goal.returns
returns c =
    let a = c.args in
    let h = a.head in
    let n = number_pieces h.accepted.0 h.rejected.0 in
    let w = number_width h.accepted.0 h.rejected.0 in
    let p = c.put_numbers-mid in
    let q = c.put_side-mid in
    let r = c.put_numbers in
    put_pieces (n ++ (side_text h.side ∷ [])) n a.at q.result r.result a.out.now q.new.out r.new.out (omega (arith, w, side_length h.side))
    (put_piece n (side_text h.side) a.at p.result q.result a.out.now p.new.out q.new.out (omega (arith, w)) p.ensures q.ensures)
    r.ensures
