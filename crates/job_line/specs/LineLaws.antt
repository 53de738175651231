-- The laws of the printed answer: how many digits a number has, and how long each text is. Assumes nothing.
use Rattle.std.specs.Prelude.{◌≡◌, refl, Bool, true, false, cond, [], ◌∷◌, ◌++◌, ℕ, zero, suc, ◌+◌, ◌-◌, ◌/◌, ◌≤◌, ◌<◌, length, ltb, Err, Ok}
use Rattle.std.proofs.Common.{not-suc-le-zero, arith, length-append, lt-ltb, le-ltb}
use Rattle.lines.specs.Number.{digits_of}
use Rattle.lines.specs.NumberLaws.{digits_length}
use Rattle.tif.specs.Side.{side_text}
use Rattle.tic_text.specs.TextLaws.{side_length}
use Rattle.answers.specs.Answer.{answer_code, fault_number}
use Rattle.answers.specs.Answer.{Answer}
use Rattle.answers.specs.declared.answer.CallFault.{CallFault}
use Rattle.answers.specs.declared.answer.Summary.{Summary}
use Rattle.job_line.specs.Line.{digit_count, decimal, after_blank, fault_text, head_text, counts_text, amounts_text, summary_text, answer_text}

-- ---- how many digits
pub count_le : (most v : ℕ) → digit_count most v ≤ most
unfolding digit_count
count_le zero v = omega arith
count_le (suc most) v = go (ltb 9 v) (count_le most (v / 10))
  where
    go : (b : Bool) → digit_count most (v / 10) ≤ most → cond b (suc (digit_count most (v / 10))) 1 ≤ suc most
    go true e = omega (arith, e)
    go false e = omega arith

-- one digit more
pub count_more : (left v : ℕ) → 1 < left → 9 < v → digit_count left v ≡ digit_count (left - 1) (v / 10) + 1
unfolding digit_count
count_more zero v l h = absurd (not-suc-le-zero l)
count_more (suc left) v l h =
    let e : suc left - 1 ≡ left = omega arith in
    rw (lt-ltb 9 v h, e) (omega arith)

-- the last one
pub count_last : (left v : ℕ) → 0 < left → v ≤ 9 → digit_count left v ≡ 1
unfolding digit_count
count_last zero v l h = absurd (not-suc-le-zero l)
count_last (suc left) v l h = rw (le-ltb 9 v h)

-- the last one that there may be
pub count_one : (left v : ℕ) → left ≡ 1 → digit_count left v ≡ 1
unfolding digit_count
count_one left v e = rw e (go (ltb 9 v))
  where
    go : (b : Bool) → cond {A = ℕ} b 1 1 ≡ 1
    go true = refl
    go false = refl

-- ---- how long the texts are
pub decimal_length : (v : ℕ) → length (decimal v) ≤ 20
unfolding decimal
decimal_length v = omega (arith, digits_length (digit_count 20 v) v, count_le 20 v)

pub blank_length : (v : ℕ) → length (after_blank v) ≤ 21
unfolding after_blank
blank_length v = omega (arith, length-append (32 ∷ []) (decimal v), decimal_length v)

three_length : (a b c : ℕ) → length (after_blank a ++ after_blank b ++ after_blank c) ≤ 63
three_length a b c = omega (arith, length-append (after_blank a ++ after_blank b) (after_blank c), length-append (after_blank a) (after_blank b), blank_length a, blank_length b, blank_length c)

pub fault_length : (fault : CallFault) → length (fault_text fault) ≤ 132
unfolding fault_text
fault_length fault = omega (arith, length-append (69 ∷ []) (decimal (fault_number fault)), decimal_length (fault_number fault))

pub head_length : (s : Summary) → length (head_text s) ≡ 6
unfolding head_text
head_length s =
    let d = digits_of 2 (answer_code s.answer) in
    omega (arith, length-append (d ++ (32 ∷ [])) (side_text s.side), length-append d (32 ∷ []), digits_length 2 (answer_code s.answer), side_length s.side)

pub counts_length : (s : Summary) → length (counts_text s) ≤ 63
unfolding counts_text
counts_length s = three_length s.lines s.accepted s.refused

pub amounts_length : (s : Summary) → length (amounts_text s) ≤ 63
unfolding amounts_text
amounts_length s = three_length s.total.0 s.accepted_amount.0 s.refused_amount.0

summary_length : (s : Summary) → length (summary_text s) ≤ 132
unfolding summary_text
summary_length s = omega (arith, length-append (head_text s ++ counts_text s) (amounts_text s), length-append (head_text s) (counts_text s), head_length s, counts_length s, amounts_length s)

pub answer_length : (answer : Answer) → length (answer_text answer) ≤ 132
answer_length (Err fault) = fault_length fault
answer_length (Ok s) = summary_length s
