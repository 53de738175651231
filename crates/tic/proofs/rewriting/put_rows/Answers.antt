use native.Mathlib.Omega.{arith}
use Prim.Native.Nat.{◌+◌, ◌≤◌}
use mathlib.Core.Path.{ap, ◌∙◌}
use lib.ListN.{length}
use Rattle.lines.specs.Below.{join_below}
use Rattle.lines.specs.BelowLaws.{join_zero, join_suc}
use Rattle.lines.specs.RowsLaws.{line_ends}
use Rattle.lines.specs.SpliceLaws.{put_none, put_more}
use Rattle.tic_text.specs.Columns.{tic_layout}
use Rattle.tic.specs.Rewriting.{tic_of, line_read, code_read}
use Rattle.tic.specs.RewritingLaws.{row_length, rows_length}
use Rattle.tic_text.specs.Text.{listed_at}
use Rattle.tic.proofs.rewriting.put_rows.Goals as goal

pub loop-k-init : goal.loop-k-init
loop-k-init c = rw join_zero (put_none _ _)

pub line_of-requires : goal.line_of-requires
line_of-requires c =
    omega (arith, c.requires.within, line_ends tic_layout c.args.n c.loop-k.k (omega arith))

pub put_row-at-requires : goal.put_row-at-requires
put_row-at-requires c =
    record {
      long = ap length c.line_of.ensures ∙ row_length c.args.tic.now c.args.n c.requires.within c.loop-k.k (omega arith);
      room = omega (arith, c.loop-k.invariant.place, c.requires.room, rows_length c.args.tic.now c.args.n c.requires.within c.loop-k.k (omega arith));
    }

pub loop-k-preserved : goal.loop-k-preserved
unfolding listed_at line_read code_read
loop-k-preserved c =
    let k = c.loop-k.k in
    let f = listed_at (tic_of c.args.tic.now) in
    let g = c.put_row-at in
    let h : c.args.from + length (join_below k f) ≤ length c.args.out.now = omega (arith, c.requires.room, rows_length c.args.tic.now c.args.n c.requires.within k (omega arith)) in
    rw (join_suc f k) (put_more (join_below k f) (f k) c.args.from c.loop-k.at g.result c.args.out.now c.loop-k.out g.new.out h c.loop-k.invariant (rw c.line_of.ensures at g.ensures))
