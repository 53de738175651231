-- Lines that agree have one hash. Assumes nothing.
use Rattle.std.specs.Prelude.{◌≡◌, true, get_or}
use Rattle.std.proofs.Math.Path.{refl, ap}
use Rattle.std.proofs.Common.{◌∙◌, add-one, mod-lt, zero-lt-suc, arith}
use mathlib.Core.List.{List}
use Prim.Native.Nat.{ℕ, zero, suc, ◌+◌, ◌/◌, ◌≤◌, ◌<◌}
use Rattle.lines.specs.BelowLaws.{all_at}
use Rattle.lines.specs.SameLaws.{same_is}
use Rattle.lines.specs.Spans.{span_count, span_of, span_agrees, agree_across}
use Rattle.chains.specs.Hash.{mixed, mix_bytes, mix_text, mix_spans, folded, hash_of, hash_two}
use Rattle.lines.specs.declared.columns.Columns.{Columns}

pub bytes_zero : (h : ℕ) (text : List ℕ) → mix_bytes h text 0 ≡ h
unfolding mix_bytes
bytes_zero h text = refl

pub bytes_suc : (h : ℕ) (text : List ℕ) (i : ℕ) → mix_bytes h text (i + 1) ≡ mixed (mix_bytes h text i) (get_or text i 0)
unfolding mix_bytes
bytes_suc h text i = rw (add-one i)

pub spans_zero : (spans : List Columns) (line : List ℕ) → mix_spans spans line 0 ≡ 0
unfolding mix_spans
spans_zero spans line = refl

pub spans_suc : (spans : List Columns) (line : List ℕ) (m : ℕ) → mix_spans spans line (m + 1) ≡ mix_text (mix_spans spans line m) (span_of spans line m)
unfolding mix_spans
spans_suc spans line m = rw (add-one m)

pub hash_small : (spans : List Columns) (line : List ℕ) → hash_of spans line < 4096
unfolding hash_of
hash_small spans line = mod-lt (mixed (mix_spans spans line (span_count spans)) 0 / 1048576) (zero-lt-suc 4095)

pub two_small : (a b : List ℕ) → hash_two a b < 4096
unfolding hash_two
two_small a b = mod-lt (mixed (mix_text (mix_text 0 a) b) 0 / 1048576) (zero-lt-suc 4095)

-- ---- agreement
module _ (ss : List Columns) (a : List ℕ) (ts : List Columns) (b : List ℕ) (agree : agree_across ss a ts b ≡ true) where
  texts_same : (m : ℕ) → m < span_count ss → span_of ss a m ≡ span_of ts b m
  unfolding agree_across span_agrees
  texts_same m h = same_is (span_of ss a m) (span_of ts b m) (all_at (span_agrees ss a ts b) (span_count ss) agree m h)

  spans_same : (m : ℕ) → m ≤ span_count ss → mix_spans ss a m ≡ mix_spans ts b m
  unfolding mix_spans
  spans_same zero h = refl
  spans_same (suc m) h =
      ap (λ (x : ℕ). mix_text x (span_of ss a m)) (spans_same m (omega arith))
      ∙ ap (λ (t : List ℕ). mix_text (mix_spans ts b m) t) (texts_same m (omega arith))

  pub agree_hash : span_count ss ≡ span_count ts → hash_of ss a ≡ hash_of ts b
  unfolding hash_of
  agree_hash paired = ap folded (spans_same (span_count ss) (omega arith) ∙ ap (λ (m : ℕ). mix_spans ts b m) paired)
