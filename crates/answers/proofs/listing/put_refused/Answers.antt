use native.Mathlib.Omega.{arith}
use mathlib.Core.Path.{◌≡◌, sym, ap, ◌∙◌}
use Rattle.lines.specs.SpliceLaws.{put_none}
use Rattle.tif.specs.Body.{line_at}
use Rattle.answers.specs.Card.{code_of}
use Rattle.answers.specs.Listing.{number_at}
use Rattle.answers.specs.ListingLaws.{text_no, code_length, line_long, text_of}
use Rattle.answers.specs.ListingLaws.{refused_room}
use Rattle.answers.proofs.listing.put_refused.Goals as goal
use Rattle.answers.proofs.listing.put_refused.Goals.{After-code_of, Else-number-eq0}

pub returns-then-number-eq0 : goal.returns-then-number-eq0
returns-then-number-eq0 c =
    let a = c.args in
    rw (sym (text_no a.inputs.tif.now a.inputs.card.now a.words.now a.k (sym c.number_at-number.ensures ∙ c.if-number-eq0.true))) (put_none a.at a.out.now)

numbered : (c : Else-number-eq0) → let a = c.args in number_at a.words.now a.k ≡ 0 → ⊥
numbered c z = c.if-number-eq0.false (c.number_at-number.ensures ∙ z)

pub tif_line-requires : goal.tif_line-requires
tif_line-requires c = c.requires.0.lined c.args.k c.requires.1

pub code_of-requires : goal.code_of-requires
code_of-requires c =
    rw c.number_at-number.ensures (record { counted = omega (arith, numbered (goal.at.code_of-requires c).Else-number-eq0); known = c.requires.0.known c.args.k c.requires.1 })

-- the line and the code that were cut
line_is : (c : After-code_of) → c.tif_line.result.now ≡ line_at c.args.inputs.tif.now c.args.k
line_is c = c.tif_line.ensures

code_is : (c : After-code_of) → c.code_of.result.now ≡ code_of c.args.inputs.card.now (number_at c.args.words.now c.args.k)
code_is c = c.code_of.ensures ∙ ap (code_of _) c.number_at-number.ensures

pub put_listed-requires : goal.put_listed-requires
put_listed-requires c =
    let w = c.requires.0 in
    record {
      line_long = rw (line_is (goal.at.put_listed-requires c).After-code_of) (omega (arith, line_long _ _ _ w c.args.k c.requires.1));
      code_long = rw (code_is (goal.at.put_listed-requires c).After-code_of) (code_length _ _ _ w c.args.k c.requires.1 (numbered (goal.at.put_listed-requires c).Else-number-eq0));
      room = omega (arith, c.requires.2, refused_room _ _ _ w c.args.k c.requires.1 (numbered (goal.at.put_listed-requires c).Else-number-eq0));
    }

pub returns : goal.returns
returns c =
    rw (sym (text_of c.args.inputs.tif.now c.args.inputs.card.now c.args.words.now c.args.k _ _ (line_is (goal.at.returns c).After-code_of) (code_is (goal.at.returns c).After-code_of) (numbered (goal.at.returns c).Else-number-eq0))) c.put_listed.ensures
