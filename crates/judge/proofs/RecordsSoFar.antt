-- The list that `fill` has after i turns: the records of the first i lines, and the rest as it was. Assumes nothing.
use Rattle.std.specs.Prelude.{◌≡◌, ℕ, zero, suc, ◌+◌, ◌<◌, List, [], ◌∷◌, ◌++◌, length, drop, set}
use mathlib.Core.Path.{refl, sym, ◌∙◌, ap}
use native.Mathlib.Nat.{add-zero, add-suc, not-suc-le-zero, le_of_suc-le-suc}
use mathlib.Core.List.{append_assoc}
use lib.ListN.{length-append}
use Rattle.verdicts.specs.declared.record.Record.{Record}
use Rattle.judge.specs.Records.{record_at, records_to}

pub one_more : (i : ℕ) → i + 1 ≡ suc i
one_more i = add-suc i zero ∙ ap suc (add-zero i)

module _ {A : Type 0} where
  pub set_after : (xs bs : List A) (r : A) → set (xs ++ bs) (length xs) r ≡ xs ++ set bs 0 r
  set_after [] bs r = refl
  set_after (x ∷ xs) bs r = ap {B = List A} (λ l. x ∷ l) (set_after xs bs r)

  pub set_drop : (i : ℕ) (ys : List A) (r : A) → i < length ys → set (drop i ys) 0 r ≡ r ∷ drop (suc i) ys
  set_drop i [] r l = absurd (not-suc-le-zero l)
  set_drop zero (y ∷ ys) r l = refl
  set_drop (suc i) (y ∷ ys) r l = set_drop i ys r (le_of_suc-le-suc l)

module _ (tif words : List ℕ) where
  pub length_records : (n : ℕ) → length (records_to tif words n) ≡ n
  unfolding records_to
  length_records zero = refl
  length_records (suc n) = length-append (records_to tif words n) (record_at tif words n ∷ []) ∙ ap (λ (k : ℕ). k + 1) (length_records n) ∙ one_more n

  -- after i turns
  abbrev pub so_far : List Record → ℕ → List Record
  so_far ys i = records_to tif words i ++ drop i ys

  pub so_far_none : (ys : List Record) → so_far ys 0 ≡ ys
  unfolding records_to
  so_far_none ys = refl

  -- one turn more
  pub so_far_more : (ys : List Record) (i : ℕ) → i < length ys → set (so_far ys i) i (record_at tif words i) ≡ so_far ys (suc i)
  unfolding records_to
  so_far_more ys i l =
      ap (λ (k : ℕ). set (so_far ys i) k (record_at tif words i)) (sym (length_records i)) ∙ set_after (records_to tif words i) (drop i ys) (record_at tif words i)
      ∙ ap (λ (bs : List Record). records_to tif words i ++ bs) (set_drop i ys (record_at tif words i) l) ∙ sym (append_assoc (records_to tif words i) (record_at tif words i ∷ []) (drop (suc i) ys))
