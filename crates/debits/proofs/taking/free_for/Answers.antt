use native.Mathlib.Omega.{arith}
use mathlib.Core.Path.{◌≡◌, ap, ◌∙◌}
use lib.ListN.{length}
use Rattle.lines.specs.Below.{all_below}
use Rattle.lines.specs.Spans.{spans_in, span_in}
use Rattle.debits.specs.FormLaws.{debit_length}
use Rattle.debits.proofs.taking.free_for.Goals as goal

pub agree_on-requires : goal.agree_on-requires
unfolding spans_in span_in all_below
agree_on-requires c =
    let a = c.args in
    let line : length c.line_of.result.now ≡ 810 = ap length c.line_of.ensures ∙ debit_length a.debits.now (length a.marks.now) a.j (omega arith) (omega arith) in
    let credit : length a.credit.now ≡ 810 = omega arith in
    (rw line, rw credit)
