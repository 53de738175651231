use native.Mathlib.Omega.{arith}
use mathlib.Core.List.{[], ◌∷◌}
use Rattle.lines.specs.NumberLaws.{digits_length}
use Rattle.tic_text.specs.PieceLaws.{put_first, put_piece}
use Rattle.tic_text.specs.Text.{fifteen}
use Rattle.tic_text.proofs.text.put_numbers.Goals as goal

pub put_digits-requires : goal.put_digits-requires
put_digits-requires c = omega (arith, digits_length 15 c.args.first)

pub returns : goal.returns
returns c =
    let a = c.args in
    let p = c.put_digits-mid in
    let q = c.put_digits in
    put_piece (fifteen a.first ∷ []) (fifteen a.second) a.at p.result q.result a.out.now p.new.out q.new.out
    (omega (arith, digits_length 15 a.first)) (put_first _ _ _ _ _ p.ensures) q.ensures
