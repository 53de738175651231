use native.Mathlib.Omega.{arith}
use Rattle.answers.specs.TicLaws.{receiver_long, stem_long, after_header, after_lines, tic_whole}
use Rattle.lines.specs.Splice.{Put}
use Rattle.tic_text.specs.Text.{header_text}
use Rattle.tif.specs.Name.{name_receiver, name_stem}
use Rattle.answers.proofs.listing.put_tic.Goals as goal
use Rattle.answers.proofs.listing.put_tic.Goals.{After-put_header-mid}

pub put_header-mid-requires : goal.put_header-mid-requires
put_header-mid-requires c =
    record {
      receiver_long = rw c.field.ensures (receiver_long _ _ _ _ _ _ c.args.sums _ c.requires);
      stem_long = rw c.field-2.ensures (stem_long _ _ _ _ _ _ c.args.sums _ c.requires);
      moment_long = c.requires.dated;
      room = omega (arith, c.requires.room);
    }

header_put : (c : After-put_header-mid) → let a = c.args in
    Put (header_text (name_receiver a.inputs.name.now) (name_stem a.inputs.name.now) a.inputs.received.now a.head) 0 a.out.now c.put_header-mid.result c.put_header-mid.new.out
header_put c = rw (c.field.ensures, c.field-2.ensures) at c.put_header-mid.ensures

pub put_lines-mid-requires : goal.put_lines-mid-requires
put_lines-mid-requires c =
    let m = after_header _ _ _ _ _ _ c.args.sums _ c.requires _ _ (header_put (goal.at.put_lines-mid-requires c).After-put_header-mid) in
    record { worded = c.requires.worded; room = omega (arith, m.place, m.same, c.requires.room) }

pub put_footer-requires : goal.put_footer-requires
put_footer-requires c =
    let m = after_lines _ _ _ _ _ _ c.args.sums _ c.requires _ _ _ _ (header_put (goal.at.put_footer-requires c).After-put_header-mid) c.put_lines-mid.ensures in
    omega (arith, m.place, m.same, c.requires.room)

pub returns : goal.returns
returns c =
    tic_whole _ _ _ _ _ _ _ _ c.requires _ _ _ _ _ _ (header_put (goal.at.returns c).After-put_header-mid) c.put_lines-mid.ensures c.put_footer.ensures
