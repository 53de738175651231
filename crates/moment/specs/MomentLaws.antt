-- What is known of leap years, and that real dates and moments are digits. Assumes nothing.
use Rattle.std.specs.Prelude.{◌≡◌, refl, Bool, true, false, not, cond, List, ℕ, ◌%◌, ◌≤◌, length, eqb, Err}
use Rattle.std.proofs.lemmas.Bool.{false≢true}
use Rattle.std.proofs.Common.{arith, eqb-true}
use Rattle.lines.specs.FirstOf.{first_of}
use Rattle.lines.specs.Number.{all_digits}
use Rattle.moment.specs.Calendar.{is_leap}
use Rattle.moment.specs.Moment.{Checked, is_real, date_fault, time_fault, check_date, check_moment, is_date, is_moment}
use Rattle.moment.specs.declared.MomentFault.TheVariants.{Wrong, OtherLength}
use Rattle.moment.specs.declared.MomentPart.TheVariants.{Character}

pub leap_small : (year : ℕ) → is_leap year ≤ 1
unfolding is_leap first_of
leap_small year = go (not (eqb (year % 4) 0)) (not (eqb (year % 100) 0)) (not (eqb (year % 400) 0))
  where
    go : (a b c : Bool) → cond a 0 (cond b 1 (cond c 0 1)) ≤ 1
    go true b c = omega arith
    go false true c = omega arith
    go false false true = omega arith
    go false false false = omega arith

-- a text that passes a length and then digits
passes : (s : List ℕ) (w : ℕ) (rest : Checked) → is_real (cond (not (eqb (length s) w)) (Err OtherLength) (cond (not (all_digits s)) (Err (Wrong Character)) rest)) ≡ true → (length s ≡ w) × (all_digits s ≡ true)
passes s w rest e = go (eqb (length s) w) refl (all_digits s) refl e
  where
    go : (a : Bool) → eqb (length s) w ≡ a → (b : Bool) → all_digits s ≡ b → is_real (cond (not a) (Err OtherLength) (cond (not b) (Err (Wrong Character)) rest)) ≡ true → (length s ≡ w) × (all_digits s ≡ true)
    go true f true g p = (eqb-true (length s) w f, g)
    go true f false g p = absurd (false≢true p)
    go false f b g p = absurd (false≢true p)

pub date_shows : (s : List ℕ) → is_date s ≡ true → (length s ≡ 8) × (all_digits s ≡ true)
unfolding is_date check_date first_of
date_shows s e = passes s 8 (date_fault s) e

pub moment_shows : (s : List ℕ) → is_moment s ≡ true → (length s ≡ 14) × (all_digits s ≡ true)
unfolding is_moment check_moment first_of
moment_shows s e = passes s 14 (cond (not (is_real (date_fault s))) (date_fault s) (time_fault s)) e
