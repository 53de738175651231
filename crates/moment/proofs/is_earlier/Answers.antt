use native.Mathlib.Omega.{arith}
use mathlib.Core.Path.{◌≡◌, sym, ◌∙◌}
use Prim.Native.Nat.{ℕ, ◌<◌}
use lib.ListN.{get_or}
use Rattle.lines.specs.Word.{word_at}
use Rattle.lines.specs.WordLaws.{word_alike, word_before}
use Rattle.moment.proofs.is_earlier.Goals as goal

-- the first words decide where they differ
pub returns-then-first-other : goal.returns-then-first-other
returns-then-first-other c =
    let a = c.args.a.now in
    let b = c.args.b.now in
    rw (c.word_at-first.ensures, c.word_at-other.ensures)
    (word_before a b (λ j. omega (arith, c.type_inv.a j)) (λ j. omega (arith, c.type_inv.b j)) (omega arith) 0
    (record {
      alike = (λ j h. absurd (omega arith));
      inside = omega arith;
      last = (λ e. absurd (c.if-first-other.true (c.word_at-first.ensures ∙ e ∙ sym c.word_at-other.ensures)));
    }))

-- else the last do
pub returns : goal.returns
returns c =
    let a = c.args.a.now in
    let b = c.args.b.now in
    let small : (j : ℕ) → get_or a j 0 < 256 = (λ j. omega (arith, c.type_inv.a j)) in
    let small' : (j : ℕ) → get_or b j 0 < 256 = (λ j. omega (arith, c.type_inv.b j)) in
    let e : word_at a 0 ≡ word_at b 0 = sym c.word_at-first.ensures ∙ c.if-first-other.false ∙ c.word_at-other.ensures in
    rw (c.word_at.ensures, c.word_at-2.ensures)
    (word_before a b small small' (omega arith) 6
    (record {
      alike = (λ j h. word_alike a b small small' 0 (λ i l. absurd (omega arith)) e j (omega arith));
      inside = omega arith;
      last = (λ f. sym c.requires.0);
    }))
