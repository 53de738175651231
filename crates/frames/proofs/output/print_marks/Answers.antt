use Rattle.std.proofs.Common.{◌≡◌, ◌<◌, ℕ, List, ◌++◌, length, get_or, take, drop, suc, sym, ap, ◌∙◌, subst, arith}
use Rattle.std.specs.Prelude.{flat_map, decimal}
use Rattle.std.proofs.lemmas.List.{take-append-drop}
use Rattle.std.proofs.lemmas.List.Concat.{flat_map-cons}
use Rattle.std.proofs.lemmas.Grind.{flat_map-append}
use Rattle.std.proofs.Math.Seq.{drop-cons}
use Rattle.buffers.specs.Writes.{AppendsFront}
use Rattle.buffers.proofs.Stopped.{on_any_err, stopped_within}
use Rattle.frames.proofs.output.print_marks.Goals as goal

-- the digits of the marks before a mark, of that mark, and of those behind it
parted : (marks : List ℕ) (i mark : ℕ) → i < length marks → mark ≡ get_or marks i 0 → flat_map decimal (take i marks) ++ (decimal mark ++ flat_map decimal (drop (suc i) marks)) ≡ flat_map decimal marks
parted marks i mark h e =
    ap (λ m. flat_map decimal (take i marks) ++ (decimal m ++ flat_map decimal (drop (suc i) marks))) e
    ∙ ap (λ l. flat_map decimal (take i marks) ++ l) (sym (flat_map-cons decimal (get_or marks i 0) (drop (suc i) marks)) ∙ ap (flat_map decimal) (sym (drop-cons marks i 0 h)))
    ∙ sym (flat_map-append decimal (take i marks) (drop i marks))
    ∙ ap (flat_map decimal) (take-append-drop i marks)

pub returns-in_err-print_number-clause-err : goal.returns-in_err-print_number-clause-err
returns-in_err-print_number-clause-err g c =
    let marks = c.args.marks.now in
    let i = c.loop-mark.mark-index in
    on_any_err c.from_residual.result
    (subst (AppendsFront _ _) (parted marks i c.from.result (omega arith) c.from.ensures) (stopped_within _ _ _ _ _ (flat_map decimal (drop (suc i) marks)) c.loop-mark.invariant c.in_err-print_number.ensures.err))
