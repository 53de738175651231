-- What the steps of the call give, from what they rest on. Assumes nothing.
use Rattle.std.specs.Prelude.{◌≡◌, ℕ, ◌-◌, ◌≤◌, List, ◌++◌, length, take, drop}
use Rattle.std.proofs.Common.{sym, ap, ◌∙◌, subst, arith, length-append, take_at, length-take-le}
use Rattle.std.proofs.Math.Nat.{sub-zero}
use Rattle.lines.specs.BelowLaws.{table_length}
use Rattle.lines.specs.SpliceLaws.{splice_zero}
use Rattle.tif.specs.Name.{name_sender}
use Rattle.tif.specs.Side.{side_of}
use Rattle.tif.specs.declared.side.Side.{Side}
use Rattle.judging.specs.Judging.{Judging, judging, words_of, word_at}
use Rattle.judging.specs.Steps.{Given, AllJudged}
use Rattle.judge.specs.Core.{Filled}

pub words_length : (j : Judging) (marks : List ℕ) (n : ℕ) → length (words_of j marks n) ≡ n
unfolding words_of
words_length j marks n = table_length (word_at j marks) n

-- the parts that were judged, with what stands behind them
module _ (name book debits mine tif tst words : List ℕ) (m n : ℕ) (fits : m ≤ length mine) (room : n ≤ length words) where
  pub parts_filled : (side : Side) (sender : List ℕ) → side ≡ side_of tif → sender ≡ name_sender name
      → (mine₁ words₁ behind : List ℕ) → length mine₁ ≡ m
      → AllJudged (judging side sender book debits tif tst) (length (take (n - 0) words)) (take (m - 0) mine) mine₁ words₁
      → Filled name book debits (take m mine) tif tst n words (mine₁ ++ behind) (words₁ ++ drop (n - 0) words)
  parts_filled side sender es er mine₁ words₁ behind lm a =
      let j = judging (side_of tif) (name_sender name) book debits tif tst in
      let ml : length (take m mine) ≡ m = length-take-le m mine fits in
      let nl : length (take (n - 0) words) ≡ n = rw sub-zero (length-take-le n words room) in
      let ej : judging side sender book debits tif tst ≡ j = ap (λ (s : Side). judging s sender book debits tif tst) es ∙ ap (λ (s : List ℕ). judging (side_of tif) s book debits tif tst) er in
      let b : AllJudged j n (take m mine) mine₁ words₁ =
      subst (λ (i : Judging). AllJudged i n (take m mine) mine₁ words₁) ej (subst (λ (k : ℕ). AllJudged (judging side sender book debits tif tst) k (take m mine) mine₁ words₁) nl (subst (λ (k : ℕ). AllJudged (judging side sender book debits tif tst) (length (take (n - 0) words)) (take k mine) mine₁ words₁) (sub-zero m) a)) in
      let ws = words_of j (take m mine) n in
      record {
        marked = rw ml (take_at mine₁ behind m lm ∙ b.marked);
        worded = ap (λ (k : ℕ). words₁ ++ drop k words) (sub-zero n) ∙ ap (λ (l : List ℕ). l ++ drop n words) b.worded ∙ ap (λ (k : ℕ). ws ++ drop k words) (sym (words_length j (take m mine) n)) ∙ sym (splice_zero words ws);
        fits = omega (arith, length-append mine₁ behind, ml);
      }

-- what the judging asks for, of the parts
pub given_parts : (book debits mine tif words : List ℕ) (m n : ℕ) → n ≤ length words → Given book debits (take m mine) tif n
    → Given book debits (take (m - 0) mine) tif (length (take (n - 0) words))
given_parts book debits mine tif words m n room g =
    let nl : n ≡ length (take (n - 0) words) = sym (rw sub-zero (length-take-le n words room)) in
    subst (λ (k : ℕ). Given book debits (take (m - 0) mine) tif k) nl (subst (λ (k : ℕ). Given book debits (take k mine) tif n) (sym (sub-zero m)) g)
