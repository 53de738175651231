use native.Mathlib.Omega.{arith}
use Prim.Native.Nat.{ℕ, ◌+◌}
use mathlib.Core.Path.{◌≡◌, ap, ◌∙◌}
use mathlib.Core.List.{List}
use lib.ListN.{length}
use Rattle.tic_text.specs.Columns.{tif_receiver, received_stem, reception_moment}
use Rattle.tic_text.specs.Text.{header_text}
use Rattle.tic_text.specs.TextLaws.{header_length}
use Rattle.tic_text.specs.declared.values.TicValues.{TicValues}
use Rattle.tic_parts.specs.Reading.{tic_header}
use Rattle.tic.specs.RewritingLaws.{Again, again, whole_put, rows_length}
use Rattle.tic.proofs.rewriting.put_tic.Goals as goal

-- the header that is cut from a TIC that reads, and where the header that is written from its parts ends
header_long : (tic h : List ℕ) (v : TicValues) → Again tic v → h ≡ tic_header tic → length h ≡ 196
header_long tic h v g is = ap length is ∙ g.header_long

header_end : (tic receiver stem moment : List ℕ) (v : TicValues) (at : ℕ) → Again tic v
    → receiver ≡ tif_receiver (tic_header tic) → stem ≡ received_stem (tic_header tic) → moment ≡ reception_moment (tic_header tic)
    → at ≡ 0 + length (header_text receiver stem moment v.head) → at ≡ 196
header_end tic receiver stem moment v at g er es em is =
    omega (arith, is, header_length receiver stem moment v.head (ap length er ∙ g.wide.receiver_long) (ap length es ∙ g.wide.stem_long) (ap length em ∙ g.wide.moment_long))

pub header_of-header-requires : goal.header_of-header-requires
header_of-header-requires c = omega (arith, (again _ _ c.requires.reads).long)

pub field-requires : goal.field-requires
field-requires c = record { first = omega arith; order = omega arith; last = omega (arith, header_long _ _ _ (again _ _ c.requires.reads) c.header_of-header.ensures) }

pub field-requires-2 : goal.field-requires-2
field-requires-2 c = record { first = omega arith; order = omega arith; last = omega (arith, header_long _ _ _ (again _ _ c.requires.reads) c.header_of-header.ensures) }

pub field-requires-3 : goal.field-requires-3
field-requires-3 c = record { first = omega arith; order = omega arith; last = omega (arith, header_long _ _ _ (again _ _ c.requires.reads) c.header_of-header.ensures) }

pub put_header-at-requires : goal.put_header-at-requires
put_header-at-requires c =
    let wide = (again _ _ c.requires.reads).wide in
    record {
      receiver_long = rw (c.field.ensures, c.header_of-header.ensures) wide.receiver_long;
      stem_long = rw (c.field-2.ensures, c.header_of-header.ensures) wide.stem_long;
      moment_long = rw (c.field-3.ensures, c.header_of-header.ensures) wide.moment_long;
      room = omega (arith, c.requires.room);
    }

pub put_rows-at-requires : goal.put_rows-at-requires
put_rows-at-requires c =
    let g = again _ _ c.requires.reads in
    let h = c.header_of-header.ensures in
    let end = header_end _ _ _ _ _ _ g (rw h at c.field.ensures) (rw h at c.field-2.ensures) (rw h at c.field-3.ensures) c.put_header-at.ensures.place in
    record { within = omega (arith, g.long); room = omega (arith, end, c.requires.room) }

pub put_footer-requires : goal.put_footer-requires
put_footer-requires c =
    let g = again _ _ c.requires.reads in
    let h = c.header_of-header.ensures in
    let end = header_end _ _ _ _ _ _ g (rw h at c.field.ensures) (rw h at c.field-2.ensures) (rw h at c.field-3.ensures) c.put_header-at.ensures.place in
    let n = c.args.values.listed in
    omega (arith, end, c.put_rows-at.ensures.place, rows_length c.args.tic.now n (omega (arith, g.long)) n (omega arith), c.requires.room)

pub returns : goal.returns
returns c =
    let h = c.header_of-header.ensures in
    let p = c.put_header-at in
    let q = c.put_rows-at in
    let r = c.put_footer in
    whole_put _ _ (again _ _ c.requires.reads) _ _ _ (rw h at c.field.ensures) (rw h at c.field-2.ensures) (rw h at c.field-3.ensures)
    c.args.out.now p.new.out q.new.out r.new.out p.result q.result r.result c.requires.room p.ensures q.ensures r.ensures
