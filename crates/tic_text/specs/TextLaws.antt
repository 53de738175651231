-- How wide the pieces of a TIC are: header 196, a listed line 812, footer 128 bytes. Assumes nothing.
use Rattle.std.specs.Prelude.{◌≡◌, refl, List, ◌++◌, ℕ, zero, suc, ◌+◌, ◌*◌, ◌≤◌, ◌<◌, length, take, drop}
use Rattle.std.proofs.Common.{sym, ◌∙◌, suc-mul, zero-mul, arith, length-append, length-drop, length-take-le}
use Rattle.std.proofs.lemmas.List.{length-replicate}
use Rattle.lines.specs.Below.{join_below}
use Rattle.lines.specs.NumberLaws.{digits_length}
use Rattle.tif.specs.Side.{side_text}
use Rattle.tif.specs.declared.side.Side.{Side}
use Rattle.tif.specs.declared.side.Side.TheVariants.{Credit, Debit, Neither}
use Rattle.tic_text.specs.Pieces.{widths_of, total}
use Rattle.tic_text.specs.PieceLaws.{joined_length}
use Rattle.tic_text.specs.Text.{zeros, blanks, front_pieces, number_pieces, count_pieces, filler_pieces, end_pieces, header_pieces, header_text, listed_pieces, listed_text, footer_pieces, footer_text, Tic, listed_at, listed_count, tic_text}
use Rattle.tic_text.specs.declared.values.TicHead.{TicHead}
use Rattle.tic_text.specs.declared.values.TicSums.{TicSums}

-- a part that the text has
pub part_length : (i n : ℕ) (s : List ℕ) → i + n ≤ length s → length (take n (drop i s)) ≡ n
part_length i n s h = length-take-le n (drop i s) (omega (arith, length-drop i s))

pub zeros_length : (n : ℕ) → length (zeros n) ≡ n
unfolding zeros
zeros_length n = length-replicate n 48

pub blanks_length : (n : ℕ) → length (blanks n) ≡ n
unfolding blanks
blanks_length n = length-replicate n 32

pub side_length : (s : Side) → length (side_text s) ≡ 3
side_length Credit = refl
side_length Debit = refl
side_length Neither = refl

-- ---- the header
pub front_width : (receiver stem moment : List ℕ) → length receiver ≡ 6 → length stem ≡ 18 → length moment ≡ 14 → total (widths_of (front_pieces receiver stem moment)) ≡ 72
front_width receiver stem moment r s m = omega (arith, part_length 0 6 stem (omega arith))

pub number_width : (a b : ℕ) → total (widths_of (number_pieces a b)) ≡ 30
number_width a b = omega (arith, digits_length 15 a, digits_length 15 b)

pub count_width : (h : TicHead) → total (widths_of (count_pieces h)) ≡ 63
count_width h = omega (arith, digits_length 15 h.accepted.0, digits_length 15 h.rejected.0, side_length h.side)

pub filler_width : total (widths_of filler_pieces) ≡ 58
filler_width = omega (arith, blanks_length 6, zeros_length 46)

pub end_width : (acceptance : ℕ) → total (widths_of (end_pieces acceptance)) ≡ 61
end_width acceptance = omega (arith, blanks_length 6, zeros_length 46, digits_length 2 acceptance)

pub header_length : (receiver stem moment : List ℕ) (h : TicHead) → length receiver ≡ 6 → length stem ≡ 18 → length moment ≡ 14 → length (header_text receiver stem moment h) ≡ 196
unfolding header_text
header_length receiver stem moment h r s m =
    joined_length (header_pieces receiver stem moment h)
    ∙ omega (arith, part_length 0 6 stem (omega arith), digits_length 15 h.accepted.0, digits_length 15 h.rejected.0, side_length h.side, blanks_length 6, zeros_length 46, digits_length 2 h.acceptance)

-- ---- a listed line, and the footer
pub listed_length : (line code : List ℕ) → 809 ≤ length line → length code ≡ 2 → length (listed_text line code) ≡ 812
unfolding listed_text
listed_length line code l c = joined_length (listed_pieces line code) ∙ omega (arith, part_length 1 808 line (omega arith))

pub footer_length : (s : TicSums) → length (footer_text s) ≡ 128
unfolding footer_text
footer_length s = joined_length (footer_pieces s) ∙ omega (arith, digits_length 15 s.accepted.0, digits_length 15 s.rejected.0, zeros_length 96)

-- ---- the whole
-- texts of their widths
pub record Wide (v : Tic) : Type 0 where
  pub receiver_long : length v.receiver ≡ 6
  pub stem_long : length v.stem ≡ 18
  pub moment_long : length v.moment ≡ 14
  pub line_long : (k : ℕ) → k < listed_count v → 809 ≤ length (v.line k)
  pub code_long : (k : ℕ) → k < listed_count v → length (v.code k) ≡ 2

pub listed_at_length : (v : Tic) → Wide v → (k : ℕ) → k < listed_count v → length (listed_at v k) ≡ 812
unfolding listed_at
listed_at_length v w k h = listed_length (v.line k) (v.code k) (w.line_long k h) (w.code_long k h)

-- lists of one length joined
pub join_even : (f : ℕ → List ℕ) (m n : ℕ) → ((i : ℕ) → i < n → length (f i) ≡ m) → length (join_below n f) ≡ n * m
unfolding join_below
join_even f m zero e = sym (zero-mul m)
join_even f m (suc n) e =
    let here : length (f n) ≡ m = e n (omega arith) in
    let before = join_even f m n (λ i l. e i (omega arith)) in
    omega (arith, length-append (join_below n f) (f n), suc-mul n m)

pub tic_length_lem : (v : Tic) → Wide v → length (tic_text v) ≡ 324 + listed_count v * 812
unfolding tic_text
tic_length_lem v w =
    length-append (header_text v.receiver v.stem v.moment v.head ++ join_below (listed_count v) (listed_at v)) (footer_text v.sums)
    ∙ omega (
      arith,
      length-append (header_text v.receiver v.stem v.moment v.head) (join_below (listed_count v) (listed_at v)),
      header_length v.receiver v.stem v.moment v.head w.receiver_long w.stem_long w.moment_long,
      join_even (listed_at v) 812 (listed_count v) (listed_at_length v w),
      footer_length v.sums,
    )
