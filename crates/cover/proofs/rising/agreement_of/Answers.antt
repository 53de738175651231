use Rattle.std.proofs.Common.{rules, sym, ap, ◌∙◌, arith, List, ℕ}
use Rattle.lines.specs.Same.{same}
use Rattle.lines.specs.Found.{found_first, found_past}
use Rattle.book.specs.Layout.{width, agreements}
use Rattle.book.specs.FormLaws.{whole_is}
use Rattle.cover.specs.Cover.{pan_is, agreement_of}
use Rattle.cover.specs.CoverLaws.{entry_inside, stays_reached, found_there, found_nowhere, found_other}
use Rattle.cover.proofs.rising.agreement_of.Goals as goal
use Rattle.cover.proofs.rising.agreement_of.Goals.{else-i-n-via-then-i-n+else-is_same, else-i-n-via-else-i-n}

-- each entry that is asked for stands in the book, and what is reached stays so
pub first_true-i-requires : goal.first_true-i-requires
first_true-i-requires c κs within =
    (search rules, ((λ i h κs' p e x y u v l. (entry_inside width _ (whole_is width _ c.requires.sound) i (omega arith), c.requires.full)), ((λ i r h p. search rules), (λ j i h k e. stays_reached width _ _ c.requires j i h (omega arith) e))))

pub pan_of-requires : goal.pan_of-requires
pan_of-requires c = entry_inside width _ (whole_is width _ c.requires.sound) _ (omega arith)

pub returns-then-is_same : goal.returns-then-is_same
unfolding pan_is agreement_of
returns-then-is_same c =
    let a = c.args in
    let n = c.agreements_of-n.ensures in
    found_first (agreements a.book.now) (pan_is a.book.now a.pan.now) c.first_true-i.result (omega arith)
    (found_there width _ _ c.requires c.first_true-i.result (rw n at c.first_true-i.ensures) (omega arith) (ap (λ (t : List ℕ). same t a.pan.now) (sym c.pan_of.ensures) ∙ sym c.is_same.ensures ∙ c.if-is_same.true))

pub returns : goal.returns
unfolding pan_is agreement_of
returns c =
    let a = c.args in
    let n = c.agreements_of-n.ensures in
    found_past (agreements a.book.now) (pan_is a.book.now a.pan.now)
    (elim c.else-i-n.branch [
      | else-i-n-via-then-i-n+else-is_same w ↦
          found_other width _ _ c.requires c.first_true-i.result (rw n at c.first_true-i.ensures) (omega arith) (ap (λ (t : List ℕ). same t a.pan.now) (sym w.pan_of.ensures) ∙ sym w.is_same.ensures ∙ w.if-is_same.false)
      | else-i-n-via-else-i-n w ↦ found_nowhere width _ _ c.requires c.first_true-i.result (rw n at c.first_true-i.ensures) (omega arith)
    ])
