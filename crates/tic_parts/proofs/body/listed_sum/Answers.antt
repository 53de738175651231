use native.Mathlib.Omega.{arith}
use Prim.Native.Nat.{◌+◌}
use mathlib.Core.Path.{◌≡◌}
use Rattle.lines.specs.BelowLaws.{sum_suc}
use Rattle.lines.specs.RowsLaws.{line_ends, line_length}
use Rattle.tic_text.specs.Columns.{tic_layout}
use Rattle.tic_parts.specs.Reading.{listed_amount}
use Rattle.tic_parts.specs.ReadingLaws.{lined_at, sum_small}
use Rattle.tic_parts.proofs.body.listed_sum.Goals as goal

pub row_amount-requires : goal.row_amount-requires
row_amount-requires c =
    let a = c.args in
    let k = c.loop-k.k in
    let ends = line_ends tic_layout a.n k (omega arith) in
    rw c.line_of.ensures (line_length tic_layout a.tic.now k (omega (arith, c.requires.within, ends)), (lined_at a.tic.now a.n c.requires k (omega arith)).amount)

pub add-sum-requires : goal.add-sum-requires
unfolding listed_amount
add-sum-requires c =
    let a = c.args in
    let k = c.loop-k.k in
    let e : c.row_amount.result.0 ≡ listed_amount a.tic.now k = rw c.line_of.ensures at c.row_amount.ensures in
    omega (arith, sum_small a.tic.now a.n c.requires (k + 1) (omega arith), sum_suc (listed_amount a.tic.now) k, c.requires.few, e)
