-- Read then write gives the same bytes: what `rewrite_tic` ensures puts the TIC that was read, byte for byte, at the start of the output. Assumes nothing.
use Rattle.std.specs.Prelude.{◌≡◌, List, ◌++◌, ℕ, ◌≤◌, length, drop, Result, Ok}
use Rattle.std.proofs.Common.{sym, ap, ◌∙◌, arith, le-ltb}
use Rattle.lines.specs.Splice.{splice}
use Rattle.lines.specs.SpliceLaws.{splice_zero}
use Rattle.tic.specs.AcceptedLaws.{rendered}
use Rattle.tic_parts.specs.Reading.{read_tic}
use Rattle.tic.specs.Rewriting.{tic_length, rewritten_for, Rewrites}
use Rattle.tic.specs.RewritingLaws.{again}
use Rattle.tic.specs.declared.rewriting.RewriteFault.{RewriteFault}
use Rattle.tic_text.specs.declared.values.TicValues.{TicValues}

pub read_then_write : (tic out : List ℕ) (r : Result ℕ RewriteFault) (out' : List ℕ) (read : TicValues)
    → Rewrites tic out r out' → read_tic tic ≡ Ok read → length tic ≤ length out
    → (r ≡ Ok (length tic)) × (out' ≡ tic ++ drop (length tic) out)
unfolding rewritten_for
read_then_write tic out r out' read w e h =
    let l = (again tic read e).long in
    let t = le-ltb (length out) (tic_length read.listed) (omega (arith, l)) in (
      rw (e, t) at w.answer ∙ ap {B = Result ℕ RewriteFault} Ok (sym l),
      rw (e, t) at w.output ∙ ap (splice out 0) (sym (rendered tic read e)) ∙ splice_zero out tic,
    )
