use Rattle.std.proofs.Common.{◌≡◌, ℕ, List, arith, sym, ap, ◌∙◌, length, Some}
use Rattle.lines.specs.Rows.{header_of, footer_of}
use Rattle.lines.specs.RowsLaws.{Framed, framed_is, header_length, footer_length}
use Rattle.tic_text.specs.Columns.{tic_layout}
use Rattle.tic_parts.specs.ReadingLaws.{sound_digits}
use Rattle.tic.proofs.reading.read_tic.Goals as goal
use Rattle.tic.proofs.reading.read_tic.Goals.{In_ok-n}

-- the TIC has n whole lines, and so its header and its footer are whole
framed : (c : In_ok-n) → Framed tic_layout c.args.tic.now c.in_ok-n.n
framed c =
    let some : c.framed_lines.result ≡ Some c.in_ok-n.n = grind arith in
    framed_is _ _ _ (sym c.framed_lines.ensures ∙ some)

header_whole : (tic h : List ℕ) (n : ℕ) → Framed tic_layout tic n → h ≡ header_of tic_layout tic → length h ≡ 196
header_whole tic h n w is = ap length is ∙ header_length tic_layout tic (omega (arith, w.counted.long))

footer_whole : (tic f : List ℕ) (n : ℕ) → Framed tic_layout tic n → f ≡ footer_of tic_layout tic n → length f ≡ 128
footer_whole tic f n w is = ap length is ∙ footer_length tic_layout tic n (omega (arith, w.counted.long))

pub header_of-header-requires : goal.header_of-header-requires
header_of-header-requires c = omega (arith, (framed (goal.at.header_of-header-requires c).In_ok-n).counted.long)

pub header_sound-requires : goal.header_sound-requires
header_sound-requires c = header_whole _ _ _ (framed (goal.at.header_sound-requires c).In_ok-n) c.header_of-header.ensures

pub head_of-head-requires : goal.head_of-head-requires
head_of-head-requires c =
    (header_whole _ _ _ (framed (goal.at.head_of-head-requires c).In_ok-n) c.header_of-header.ensures, sound_digits _ (sym c.if-not-header_sound.ensures))

pub counts_agree-requires : goal.counts_agree-requires
counts_agree-requires c =
    let w = framed (goal.at.counts_agree-requires c).In_ok-n in
    record {
      long = header_whole _ _ _ w c.header_of-header.ensures;
      digits = sound_digits _ (sym c.if-not-header_sound.ensures);
      value = c.head_of-head.ensures;
      few = w.counted.few;
    }

pub lines_formed-requires : goal.lines_formed-requires
lines_formed-requires c = omega (arith, (framed (goal.at.lines_formed-requires c).In_ok-n).counted.long)

pub footer_of-footer-requires : goal.footer_of-footer-requires
footer_of-footer-requires c = omega (arith, (framed (goal.at.footer_of-footer-requires c).In_ok-n).counted.long)

pub footer_formed-requires : goal.footer_formed-requires
footer_formed-requires c = footer_whole _ _ _ (framed (goal.at.footer_formed-requires c).In_ok-n) c.footer_of-footer.ensures

pub sums_of-sums-requires : goal.sums_of-sums-requires
sums_of-sums-requires c =
    (footer_whole _ _ _ (framed (goal.at.sums_of-sums-requires c).In_ok-n) c.footer_of-footer.ensures, sym c.if-not-footer_formed.ensures)

pub listed_sum-requires : goal.listed_sum-requires
listed_sum-requires c =
    let w = framed (goal.at.listed_sum-requires c).In_ok-n in
    record {
      within = omega (arith, w.counted.long);
      formed = sym c.if-not-lines_formed.ensures;
      few = w.counted.few;
    }
