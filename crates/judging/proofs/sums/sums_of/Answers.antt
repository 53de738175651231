use Rattle.std.proofs.Common.{◌≡◌, ◌∙◌, ap, arith, length, ℕ, ◌<◌, get_or}
use Rattle.judging.specs.Sums.{sums_plus, sums_below, count_of, total_of}
use Rattle.judging.specs.declared.sums.Sums.{Sums}
use Rattle.judging.proofs.TallyLaws.{sums_none, sums_suc, room_accepted, room_refused}
use Rattle.judging.proofs.sums.sums_of.Goals as goal

pub loop-k-init : goal.loop-k-init
loop-k-init c = sums_none c.args.tif.now c.args.words.now

pub with_line-sums-requires : goal.with_line-sums-requires
with_line-sums-requires c =
    let h : c.loop-k.k < length c.args.words.now = omega arith in
    rw (c.loop-k.invariant, c.amount_at.ensures) (room_accepted _ _ c.requires c.loop-k.k h, room_refused _ _ c.requires c.loop-k.k h)

pub loop-k-preserved : goal.loop-k-preserved
loop-k-preserved c =
    let tif = c.args.tif.now in
    let words = c.args.words.now in
    let word = get_or words c.loop-k.k 0 in
    c.with_line-sums.ensures
    ∙ ap (λ (sums : Sums). sums_plus word sums c.amount_at.result.0) c.loop-k.invariant
    ∙ ap (λ (amount : ℕ). sums_plus word (sums_below tif words c.loop-k.k) amount) c.amount_at.ensures
    ∙ sums_suc tif words c.loop-k.k

pub returns : goal.returns
unfolding count_of total_of
returns c =
    let e : c.loop-k.k ≡ length c.args.words.now = omega arith in
    rw e at c.loop-k.invariant
