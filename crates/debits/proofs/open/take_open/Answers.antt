use native.Mathlib.Omega.{arith}
use Prim.Native.Nat.{ℕ, ◌+◌}
use mathlib.Core.Path.{◌≡◌, refl, sym, ap, ◌∙◌}
use borrow.Author.Rules.{rules}
use native.Mathlib.Numerals.{add-one, sub-one}
use Rattle.std.specs.Prelude.{Some, None}
use Rattle.debits.specs.TakingLaws.{taken_some, taken_none}
use Rattle.debits.specs.OpenLaws.{opened_cut}
use Rattle.debits.proofs.open.take_open.Goals as goal

pub next_ahead-requires : goal.next_ahead-requires
next_ahead-requires c = omega (arith, c.requires.1.long, c.link_to-at.ensures.stands.within)

pub returns-in_err-j : goal.returns-in_err-j
returns-in_err-j c =
    let none : c.from_residual.result ≡ None = search rules in
    rw none
    (record { answer = sym (taken_none _ _ _ (omega (arith, c.link_to-at.ensures.leads, c.in_err-j.ensures))); marked = search rules; within = omega arith }, c.requires.1)

pub bounds-links-j : goal.bounds-links-j
bounds-links-j c = omega (arith, c.requires.1.long, c.in_ok-j.ensures.1)

pub returns : goal.returns
returns c =
    let g = c.link_to-at.ensures in
    let is = c.in_ok-j.ensures.0 in
    let e = is ∙ g.leads in (
      record {
        answer = ap (λ (j : ℕ). Some (j + 1)) e ∙ sym (taken_some _ _ _ (omega (arith, e, c.in_ok-j.ensures.1)));
        marked = rw (add-one, sub-one);
        within = omega (arith, c.in_ok-j.ensures.1);
      },
      opened_cut _ _ _ _ _ _ _ c.requires.1 g is c.in_ok-j.ensures.1 refl,
    )
