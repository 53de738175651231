use Rattle.std.proofs.Common.{rules, arith, sym, ◌∙◌}
use Rattle.judging_vectors.specs.Cases.{ready_is, given_is, front_is}
use Rattle.judging_vectors.proofs.run_sound.Goals as goal

pub run_lines-requires : goal.run_lines-requires
run_lines-requires g c =
    let n = c.in-Ok.whole.lines in
    let ready = ready_is _ _ _ c.in-Ok.whole (sym c.acceptance_of.ensures ∙ c.in-Ok.is) in
    let front = front_is c.args.words.now n (omega arith) in
    (search rules, rw front (given_is _ _ _ _ n c.requires (search rules) ready), rw front ready)
