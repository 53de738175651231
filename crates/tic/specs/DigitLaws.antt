-- Numbers and their digits, both ways: a number written in enough digits reads as itself, and digits read as a number write the same digits. Assumes nothing.
use Rattle.std.specs.Prelude.{◌≡◌, refl, true, List, [], ◌∷◌, ◌++◌, ℕ, zero, suc, ◌+◌, ◌-◌, ◌*◌, ◌/◌, ◌%◌, ◌^◌, ◌≤◌, ◌<◌, length, get_or, take, leb}
use Rattle.std.proofs.Common.{sym, ap, ◌∙◌, pow-suc, div-lt_iff_lt-mul, div-add-mod', mod-lt, mod-eq_of_lt, add_comm, add-one, arith, length-append, take-suc, lit<, le-leb}
use Rattle.std.proofs.Math.Nat.{pow-zero, mul-add-div_right, add-mul-mod_self_right, div-eq_of_lt}
use Rattle.std.proofs.Math.ListN.{get_or-append}
use Rattle.std.proofs.lemmas.List.{get_or_at}
use Rattle.std.proofs.Math.Seq.{take-length}
use Rattle.lines.specs.BoolLaws.{and_true}
use Rattle.lines.specs.Class.{is_digit, is_of, all_of}
use Rattle.lines.specs.ClassLaws.{digit_is, all_of_at}
use Rattle.lines.specs.Number.{value_below, all_digits, number_of, digits_of}
use Rattle.lines.specs.declared.class.Class.TheVariants.{Digit}
use Rattle.tic.specs.ByteLaws.{bytes_append, bytes_none, bytes_run}

-- ---- the digits of a number are digits
digit_byte : (d : ℕ) → d < 10 → is_of Digit (48 + d) ≡ true
unfolding is_of is_digit
digit_byte d h = and_true (leb 48 (48 + d)) (leb (48 + d) 57) (le-leb 48 (48 + d) (omega arith)) (le-leb (48 + d) 57 (omega arith))

pub digits_all : (w v : ℕ) → all_digits (digits_of w v) ≡ true
unfolding all_digits all_of digits_of
digits_all zero v = bytes_none (is_of Digit)
digits_all (suc w) v = bytes_append (is_of Digit) (digits_of w (v / 10)) ((48 + v % 10) ∷ []) (digits_all w (v / 10)) (bytes_run (is_of Digit) 1 (48 + v % 10) (digit_byte (v % 10) (mod-lt v (lit< tt))))

-- ---- a number written and read
-- what stands behind does not count
value_front : (k : ℕ) (s t : List ℕ) → k ≤ length s → value_below 10 48 k (s ++ t) ≡ value_below 10 48 k s
unfolding value_below
value_front zero s t h = refl
value_front (suc k) s t h = rw (value_front k s t (omega arith), get_or-append s t 0 k (omega arith))

-- one more digit
number_more : (s : List ℕ) (d : ℕ) → number_of (s ++ (d ∷ [])) ≡ number_of s * 10 + (d - 48)
unfolding number_of value_below
number_more s d =
    let e : length (s ++ (d ∷ [])) ≡ suc (length s) = length-append s (d ∷ []) ∙ add-one (length s) in
    rw (e, value_front (length s) s (d ∷ []) (omega arith), get_or_at s d [] 0 (length s) refl)

nothing : number_of [] ≡ 0
unfolding number_of value_below
nothing = refl

pub number_digits : (w v : ℕ) → v < 10 ^ w → number_of (digits_of w v) ≡ v
unfolding digits_of
number_digits zero v h = let z : v < 1 = rw (pow-zero 10) at h in nothing ∙ omega arith
number_digits (suc w) v h =
    let q : v / 10 < 10 ^ w = (div-lt_iff_lt-mul {k = 10} {x = v} {y = 10 ^ w} (lit< tt)).1 (rw (pow-suc 10 w) at h) in
    number_more (digits_of w (v / 10)) (48 + v % 10)
    ∙ rw (number_digits w (v / 10) q) (omega (arith, div-add-mod' v 10))

-- ---- digits read and written
-- the first k of them
digits_front : (s : List ℕ) → all_digits s ≡ true → (k : ℕ) → k ≤ length s → digits_of k (value_below 10 48 k s) ≡ take k s
unfolding all_digits value_below digits_of
digits_front s e zero h = refl
digits_front s e (suc k) h =
    let d = digit_is (get_or s k 0) (all_of_at Digit s e k (omega arith)) in
    let v : ℕ = value_below 10 48 k s in
    let x : ℕ = get_or s k 0 - 48 in
    let small : x < 10 = omega arith in
    let q : (v * 10 + x) / 10 ≡ v = mul-add-div_right (lit< tt) v x ∙ omega (arith, div-eq_of_lt small) in
    let r : (v * 10 + x) % 10 ≡ x = ap (λ (n : ℕ). n % 10) (add_comm (v * 10) x) ∙ add-mul-mod_self_right x v 10 ∙ mod-eq_of_lt small in
    let b : 48 + x ≡ get_or s k 0 = omega arith in
    rw (q, r, b, digits_front s e k (omega arith)) (sym (take-suc s k 0 (omega arith)))

pub digits_number : (s : List ℕ) (w : ℕ) → length s ≡ w → all_digits s ≡ true → digits_of w (number_of s) ≡ s
unfolding number_of
digits_number s w l e = ap (λ (n : ℕ). digits_of n (value_below 10 48 (length s) s)) (sym l) ∙ digits_front s e (length s) (omega arith) ∙ take-length s
