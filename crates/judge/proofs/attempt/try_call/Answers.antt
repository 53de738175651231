use Rattle.std.proofs.Common.{◌≡◌, Err, sym, arith}
use Rattle.judge.specs.AnswerLaws.{refused_call}
use Rattle.judge.proofs.attempt.try_call.Goals as goal

pub returns-in_err-check_call : goal.returns-in_err-check_call
returns-in_err-check_call c =
    let f = c.in_err-check_call.field-0.0 in
    let e : c.from_residual.result ≡ Err f = grind arith in
    rw e (refused_call _ f (sym c.in_err-check_call.ensures) _)
