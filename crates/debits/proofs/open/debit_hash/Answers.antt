use native.Mathlib.Omega.{arith}
use mathlib.Core.Path.{◌≡◌, ap, ◌∙◌}
use lib.ListN.{length}
use Rattle.lines.specs.Below.{all_below}
use Rattle.lines.specs.Spans.{spans_in, span_in}
use Rattle.lines.specs.RowsLaws.{line_length}
use Rattle.chains.specs.Hash.{hash_of}
use Rattle.debits.specs.Form.{debit_layout}
use Rattle.debits.specs.Open.{debit_hash}
use Rattle.debits.proofs.open.debit_hash.Goals as goal

pub hash_line-requires : goal.hash_line-requires
unfolding spans_in span_in all_below
hash_line-requires c =
    let a = c.args in
    let line : length c.line_of.result.now ≡ 810 = ap length c.line_of.ensures ∙ line_length debit_layout a.debits.now a.j (omega arith) in
    rw line

pub returns : goal.returns
unfolding debit_hash
returns c = (c.hash_line.ensures.value ∙ ap (hash_of _) c.line_of.ensures, c.hash_line.ensures.small)
