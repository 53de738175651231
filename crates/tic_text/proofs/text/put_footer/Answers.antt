use native.Mathlib.Omega.{arith}
use mathlib.Core.List.{[], ◌∷◌, ◌++◌}
use Rattle.tic_text.specs.PieceLaws.{put_first, put_piece, put_pieces, joined_length}
use Rattle.tic_text.specs.Text.{number_pieces, zeros, footer_text}
use Rattle.tic_text.specs.TextLaws.{number_width}
use Rattle.tic_text.proofs.text.put_footer.Goals as goal

pub put_run-mid-requires-2 : goal.put_run-mid-requires-2
put_run-mid-requires-2 c =
    let a = c.args in
    omega (arith, joined_length (number_pieces a.sums.accepted.0 a.sums.rejected.0), number_width a.sums.accepted.0 a.sums.rejected.0)

pub put_run-requires : goal.put_run-requires
put_run-requires c =
    let a = c.args in
    omega (arith, joined_length (number_pieces a.sums.accepted.0 a.sums.rejected.0), number_width a.sums.accepted.0 a.sums.rejected.0)

pub returns : goal.returns
unfolding footer_text zeros
returns c =
    let a = c.args in
    let n = number_pieces a.sums.accepted.0 a.sums.rejected.0 in
    let w = number_width a.sums.accepted.0 a.sums.rejected.0 in
    let p = c.put_run-mid in
    let q = c.put_numbers-mid in
    let r = c.put_run-mid-2 in
    let s = c.put_run in
    put_piece ((50 ∷ []) ∷ n ++ (zeros 96 ∷ [])) (10 ∷ []) a.at r.result s.result a.out.now r.new.out s.new.out (omega (arith, w))
    (put_piece ((50 ∷ []) ∷ n) (zeros 96) a.at q.result r.result a.out.now q.new.out r.new.out (omega (arith, w))
    (put_pieces ((50 ∷ []) ∷ []) n a.at p.result q.result a.out.now p.new.out q.new.out (omega arith) (put_first _ _ _ _ _ p.ensures) q.ensures)
    r.ensures)
    s.ensures
