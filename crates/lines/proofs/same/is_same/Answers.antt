use native.Mathlib.Omega.{arith}
use Rattle.std.proofs.Common.{rules}
use Rattle.lines.specs.Found.{found_nothing}
use Rattle.lines.specs.Same.{differ_at, first_difference, same}
use Rattle.lines.specs.WordLaws.{word_same}
use borrow.Author.Tests.{eq-eqb, ne_eqb}
use Rattle.lines.proofs.same.is_same.Goals as goal

pub returns-then-a-b : goal.returns-then-a-b
unfolding same
returns-then-a-b c = rw (ne_eqb _ _ c.if-a-b.true)

pub returns-then-a-lt8 : goal.returns-then-a-lt8
unfolding same first_difference
returns-then-a-lt8 c =
    let a = c.args in
    rw (← found_nothing _ (differ_at a.a.now a.b.now), eq-eqb _ _ c.if-a-b.false, ← c.first_difference.ensures) (search rules)

pub returns : goal.returns
returns c =
    let a = c.args in
    rw (c.word_at.ensures, c.word_at-2.ensures)
    (word_same a.a.now a.b.now (λ j. omega (arith, c.type_inv.a j)) (λ j. omega (arith, c.type_inv.b j)) c.if-a-b.false c.deciding_word-at.result c.deciding_word-at.ensures)
