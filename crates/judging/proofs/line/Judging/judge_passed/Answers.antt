use Rattle.std.proofs.Common.{◌≡◌}
use Rattle.tif.specs.declared.side.Side.{Side}
use Rattle.judging.specs.StepLaws.{credit_passed, debit_passed, neither_passed}
use Rattle.judging.proofs.line.Judging.judge_passed.Goals as goal

pub returns-in-Credit : goal.returns-in-Credit
returns-in-Credit c =
    let e : c.args.self.now.side ≡ Side.Credit = cc in
    credit_passed _ _ _ _ _ _ _ _ e c.judge_credit.ensures

pub returns-in-Debit : goal.returns-in-Debit
returns-in-Debit c =
    let e : c.args.self.now.side ≡ Side.Debit = cc in
    debit_passed _ _ _ _ _ _ _ e c.judge_debit.ensures

pub returns-in-Neither : goal.returns-in-Neither
returns-in-Neither c =
    let e : c.args.self.now.side ≡ Side.Neither = cc in
    neither_passed _ _ _ _ _ _ e
