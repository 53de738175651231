use native.Mathlib.Omega.{arith}
use mathlib.Core.Path.{◌≡◌, refl, sym}
use lib.ListN.{length}
use borrow.Author.Rules.{rules}
use Rattle.lines.specs.SpliceLaws.{put_none, put_more}
use Rattle.lines.specs.BelowLaws.{join_zero, join_suc}
use Rattle.answers.specs.Listing.{listed_lines, refused_text}
use Rattle.answers.specs.ListingLaws.{lines_within}
use Rattle.answers.proofs.listing.put_lines.Goals as goal

pub loop-k-init : goal.loop-k-init
unfolding listed_lines
loop-k-init c = (rw (join_zero (refused_text _ _ _)) (put_none _ _), refl)

pub put_refused-at-requires : goal.put_refused-at-requires
put_refused-at-requires c =
    let p = c.loop-k.invariant.0.place in
    (c.requires.worded, omega arith, omega (arith, c.requires.room, lines_within _ _ _ c.requires.worded c.loop-k.k (omega arith)))

pub loop-k-preserved : goal.loop-k-preserved
unfolding listed_lines
loop-k-preserved c =
    let within = lines_within c.args.inputs.tif.now c.args.inputs.card.now c.args.words.now c.requires.worded c.loop-k.k (omega arith) in (
      rw (join_suc (refused_text c.args.inputs.tif.now c.args.inputs.card.now c.args.words.now) c.loop-k.k)
          (put_more _ _ c.args.from c.loop-k.at _ c.args.out.now c.loop-k.out _ (omega (arith, c.requires.room)) c.loop-k.invariant.0 c.put_refused-at.ensures),
      search rules,
    )

pub returns : goal.returns
returns c =
    let e : c.loop-k.k ≡ length c.args.words.now = omega arith in
    rw (sym e) c.loop-k.invariant.0
