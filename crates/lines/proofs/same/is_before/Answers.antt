use Rattle.std.specs.Prelude.{length}
use Rattle.std.proofs.Common.{sym, rules, arith, lt-ltb, le-ltb}
use Rattle.lines.specs.Found.{found_is, found_not}
use Rattle.lines.specs.Same.{differ_at, first_difference, before}
use Rattle.lines.specs.WordLaws.{word_before}
use Rattle.lines.proofs.same.is_before.Goals as goal

pub bounds-a-i : goal.bounds-a-i
bounds-a-i c =
    let a = c.args in
    let k = found_is (length a.a.now) (differ_at a.a.now a.b.now) c.in-Some.i (search rules) in
    k.1

pub bounds-b-i : goal.bounds-b-i
bounds-b-i c =
    let a = c.args in
    let k = found_is (length a.a.now) (differ_at a.a.now a.b.now) c.in-Some.i (search rules) in
    omega (arith, k, c.requires)

pub returns-in-Some : goal.returns-in-Some
unfolding before first_difference
returns-in-Some c =
    let a = c.args in
    let k = found_is (length a.a.now) (differ_at a.a.now a.b.now) c.in-Some.i (search rules) in
    rw (sym k.0, lt-ltb _ _ k.1)

pub returns-in-None : goal.returns-in-None
unfolding before first_difference
returns-in-None c =
    let a = c.args in
    let k = found_not (length a.a.now) (differ_at a.a.now a.b.now) (search rules) in
    rw (sym k, le-ltb (length a.a.now) (length a.a.now) (omega arith))

pub returns : goal.returns
returns c =
    let a = c.args in
    rw (c.word_at.ensures, c.word_at-2.ensures)
    (word_before a.a.now a.b.now (λ j. omega (arith, c.type_inv.a j)) (λ j. omega (arith, c.type_inv.b j)) c.requires c.deciding_word-at.result c.deciding_word-at.ensures)
