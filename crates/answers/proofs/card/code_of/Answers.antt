use native.Mathlib.Omega.{arith}
use Prim.Native.Nat.{◌+◌, ◌-◌, ◌*◌}
use mathlib.Core.Path.{◌≡◌}
use Rattle.answers.specs.Card.{code_of}
use Rattle.answers.proofs.card.code_of.Goals as goal

pub returns : goal.returns
unfolding code_of
returns c =
    let a = c.args in
    let e : c.code_end-end.result - (c.code_end-end.result - 2) ≡ a.k * 2 + 1 - (a.k * 2 - 1) = omega (arith, c.code_end-end.ensures) in
    let f : c.code_end-end.result - 2 ≡ a.k * 2 - 1 - 1 = omega (arith, c.code_end-end.ensures) in
    rw (e, f)
