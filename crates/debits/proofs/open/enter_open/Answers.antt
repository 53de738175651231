use native.Mathlib.Omega.{arith}
use Rattle.debits.specs.OpenLaws.{open_skip, open_more}
use Rattle.debits.proofs.open.enter_open.Goals as goal

pub returns-then-marks-k-eq0 : goal.returns-then-marks-k-eq0
returns-then-marks-k-eq0 c =
    open_more _ _ _ _ c.requires.open_from _ (omega arith) c.if-marks-k-eq0.true
    (rw c.debit_hash.ensures.0 at c.enter_ahead.ensures)

pub returns-else-marks-k-eq0 : goal.returns-else-marks-k-eq0
returns-else-marks-k-eq0 c = open_skip _ _ _ _ c.requires.open_from c.if-marks-k-eq0.false
