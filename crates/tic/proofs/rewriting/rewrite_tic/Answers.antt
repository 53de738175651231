use Rattle.std.proofs.Common.{arith, sym}
use Rattle.std.proofs.lemmas.Result.{err_from_is_err_and}
use Rattle.tic.specs.RewritingLaws.{again, not_read, too_short, written}
use Rattle.tic.proofs.rewriting.rewrite_tic.Goals as goal

pub returns-in_err-values : goal.returns-in_err-values
returns-in_err-values c =
    let p = err_from_is_err_and c.from_residual.result c.from_residual.ensures.1 in
    rw (p.1, p.2) (not_read _ _ _ (sym c.in_err-values.ensures))

pub returns-then-out-tic : goal.returns-then-out-tic
returns-then-out-tic c = too_short _ _ _ (sym c.in_ok-values.ensures) c.if-out-tic.true

pub put_tic-requires : goal.put_tic-requires
put_tic-requires c =
    let read = sym c.in_ok-values.ensures in
    record { reads = read; room = omega (arith, (again _ _ read).long, c.if-out-tic.false) }

pub returns : goal.returns
returns c =
    written _ _ _ (sym c.in_ok-values.ensures) _ _ (omega (arith, c.if-out-tic.false)) c.put_tic.ensures
