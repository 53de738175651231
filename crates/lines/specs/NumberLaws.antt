-- The laws of numbers as bytes. Assumes nothing.
use Rattle.std.specs.Prelude.{◌≡◌, Bool, true, false, cond, List, [], ◌∷◌, ◌++◌, length, Some, None}
use Rattle.std.proofs.Math.Path.{refl}
use Rattle.std.proofs.Common.{◌∙◌, pow-suc, lt_of_lt_of_le, le_trans, add-one, sub-one, arith, length-append, lit<}
use Prim.Native.Nat.{ℕ, zero, suc, ◌+◌, ◌-◌, ◌*◌, ◌/◌, ◌%◌, ◌^◌, ◌≤◌, ◌<◌}
use Rattle.std.proofs.Math.Dec.{lit≤}
use Rattle.std.proofs.Math.Nat.{pow-zero, pow-le-pow_right, mul-le-mul_right, suc-mul}
use Rattle.std.proofs.Math.ListN.{get_or}
use Rattle.lines.specs.Below.{all_below}
use Rattle.lines.specs.BelowLaws.{all_at}
use Rattle.lines.specs.Class.{is_of, all_of, all_bytes, byte_is}
use Rattle.lines.specs.ClassLaws.{digit_is, all_of_at}
use Rattle.lines.specs.Number.{value_below, all_digits, number_of, read_digits, digits_of, value_of, Written}
use Rattle.lines.specs.declared.class.Class.TheVariants.{Digit}

-- ---- a number to any base
module _ (base nought : ℕ) (s : List ℕ) where
  pub value_zero : value_below base nought 0 s ≡ 0
  unfolding value_below
  value_zero = refl

  pub value_suc : (i : ℕ) → value_below base nought (i + 1) s ≡ value_below base nought i s * base + (get_or s i 0 - nought)
  unfolding value_below
  value_suc i = rw (add-one i)

  -- bytes below the base make a number of as many places
  pub value_small : (i : ℕ) → ((j : ℕ) → j < i → get_or s j 0 - nought < base) → value_below base nought i s < base ^ i
  unfolding value_below
  value_small zero each = rw (pow-zero base) (lit< tt)
  value_small (suc i) each =
      let here : get_or s i 0 - nought < base = each i (omega arith) in
      let front : value_below base nought i s < base ^ i = value_small i (λ j h. each j (omega arith)) in
      let p : suc (value_below base nought i s) * base ≤ base ^ i * base = mul-le-mul_right base front in
      rw (pow-suc base i) (omega (arith, p, suc-mul (value_below base nought i s) base))

-- a turn of a loop that reads such bytes: the number with one more of them fits
pub value_next : (base nought : ℕ) (s : List ℕ) (i : ℕ) → Written base nought s → i < length s
    → (nought ≤ get_or s i 0) × (value_below base nought i s * base + (get_or s i 0 - nought) < 2 ^ 64)
value_next base nought s i w h =
    let d = w.digit i h in
    let small : value_below base nought (i + 1) s < base ^ (i + 1) = value_small base nought s (i + 1) (λ j k. (w.digit j (omega arith)).1) in
    let more : base ^ (i + 1) ≤ base ^ length s = pow-le-pow_right (omega arith) {i = i + 1} {j = length s} (omega arith) in
    (d.0, omega (arith, value_suc base nought s i, w.fits))

-- bytes, each of them a digit to the base 256
pub bytes_written : (s : List ℕ) → ((i : ℕ) → get_or s i 0 < 256) → length s ≤ 4 → Written 256 0 s
bytes_written s small h =
    record {
      digit = λ i k. (omega arith, omega (arith, small i));
      fits = le_trans (pow-le-pow_right (lit< tt) {i = length s} {j = 4} h) (lit≤ tt);
    }

-- ---- decimal digits
pub digits_below : (s : List ℕ) (i : ℕ) → all_below i (byte_is (is_of Digit) s) ≡ true → value_below 10 48 i s < 10 ^ i
unfolding byte_is
digits_below s i a = value_small 10 48 s i (λ j h. let d = digit_is (get_or s j 0) (all_at (byte_is (is_of Digit) s) i a j h) in omega arith)

-- fourteen digits or fewer, and one more, fit
pub value_fits : (s : List ℕ) (i : ℕ) → i < 15 → all_below i (byte_is (is_of Digit) s) ≡ true → value_below 10 48 i s < 100000000000000
value_fits s i h a = lt_of_lt_of_le (digits_below s i a) (pow-le-pow_right (lit< tt) {i = i} {j = 14} (omega arith))

-- a field of at most w digits is below 10 ^ w
pub number_small : (s : List ℕ) (w : ℕ) → length s ≤ w → all_digits s ≡ true → number_of s < 10 ^ w
unfolding all_digits number_of all_of all_bytes
number_small s w h e = lt_of_lt_of_le (digits_below s (length s) e) (pow-le-pow_right (lit< tt) {i = length s} {j = w} h)

pub digits_written : (s : List ℕ) → length s ≤ 15 → all_digits s ≡ true → Written 10 48 s
unfolding all_digits
digits_written s h e =
    record {
      digit = λ i k. let d = digit_is (get_or s i 0) (all_of_at Digit s e i k) in (d.0, omega arith);
      fits = le_trans (pow-le-pow_right (lit< tt) {i = length s} {j = 15} h) (lit≤ tt);
    }

pub read_good : (s : List ℕ) (v : ℕ) → read_digits s ≡ Some v → (all_digits s ≡ true) × (v ≡ number_of s)
unfolding read_digits
read_good s v e = go (all_digits s) e
  where
    go : (b : Bool) → cond b (Some (number_of s)) None ≡ Some v → (b ≡ true) × (v ≡ number_of s)
    go true p = (refl, cc)
    go false p = let z : ◌≡◌ {A = ℕ} 0 1 = cc in absurd (omega arith)

pub read_bad : (s : List ℕ) → read_digits s ≡ None → all_digits s ≡ false
unfolding read_digits
read_bad s e = go (all_digits s) e
  where
    go : (b : Bool) → cond b (Some (number_of s)) None ≡ None → b ≡ false
    go true p = let z : ◌≡◌ {A = ℕ} 0 1 = cc in absurd (omega arith)
    go false p = refl

pub value_digits : (s : List ℕ) → all_digits s ≡ true → value_of s ≡ number_of s
unfolding value_of
value_digits s e = rw e

-- ---- a number written as digits
pub digits_length : (w v : ℕ) → length (digits_of w v) ≡ w
unfolding digits_of
digits_length zero v = refl
digits_length (suc w) v = length-append (digits_of w (v / 10)) ((48 + v % 10) ∷ []) ∙ rw (digits_length w (v / 10)) (add-one w)

pub digits_none : (w v : ℕ) → w ≡ 0 → digits_of w v ≡ []
unfolding digits_of
digits_none zero v e = refl
digits_none (suc w) v e = absurd (omega arith)

-- the code's `left - 1`
pub digits_pred : (w v : ℕ) → 0 < w → digits_of w v ≡ digits_of (w - 1) (v / 10) ++ ((48 + v % 10) ∷ [])
unfolding digits_of
digits_pred zero v h = absurd (omega arith)
digits_pred (suc w) v h = rw sub-one
