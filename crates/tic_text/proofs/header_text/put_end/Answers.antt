use native.Mathlib.Omega.{arith}
use mathlib.Core.List.{[], ◌∷◌, ◌++◌}
use Rattle.lines.specs.Number.{digits_of}
use Rattle.lines.specs.NumberLaws.{digits_length}
use Rattle.tic_text.specs.PieceLaws.{put_piece, joined_length}
use Rattle.tic_text.specs.Text.{filler_pieces}
use Rattle.tic_text.specs.TextLaws.{filler_width}
use Rattle.tic_text.proofs.header_text.put_end.Goals as goal

pub put_digits-mid-requires : goal.put_digits-mid-requires
put_digits-mid-requires c = omega (arith, joined_length filler_pieces, filler_width)

pub put_run-requires : goal.put_run-requires
put_run-requires c = omega (arith, joined_length filler_pieces, filler_width, digits_length 2 c.args.acceptance)

pub returns : goal.returns
returns c =
    let a = c.args in
    let p = c.put_fillers-mid in
    let q = c.put_digits-mid in
    let r = c.put_run in
    let d = digits_of 2 a.acceptance in
    put_piece (filler_pieces ++ (d ∷ [])) (10 ∷ []) a.at q.result r.result a.out.now q.new.out r.new.out (omega (arith, filler_width, digits_length 2 a.acceptance))
    (put_piece filler_pieces d a.at p.result q.result a.out.now p.new.out q.new.out (omega (arith, filler_width)) p.ensures q.ensures)
    r.ensures
