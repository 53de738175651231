-- Moments YYYYMMDDhhmmss and dates YYYYMMDD: whether they are real, and the first part that is wrong. Assumes nothing.
use Rattle.std.specs.Prelude.{◌≡◌, Bool, true, not, List, [], ◌∷◌, ℕ, ◌+◌, ◌≤◌, length, eqb, ltb, Result, Ok, Err, is_ok}
use Rattle.lines.specs.Columns.{cols, Inside}
use Rattle.lines.specs.FirstOf.{Row, ◌⇒◌, first_of}
use Rattle.lines.specs.Number.{all_digits, number_of}
use Rattle.lines.specs.declared.columns.Columns.{Columns}
use Rattle.moment.specs.Calendar.{days_in}
use Rattle.moment.specs.declared.MomentFault.{MomentFault}
use Rattle.moment.specs.declared.MomentFault.TheVariants.{Wrong, OtherLength}
use Rattle.moment.specs.declared.MomentPart.TheVariants.{Character, Year, Month, Day, Hour, Minute, Second}

-- real, or why not
abbrev pub Checked : Type 0
Checked = Result (Unit {0}) MomentFault

abbrev pub year_of : List ℕ → ℕ
year_of s = number_of (cols 1 4 s)

abbrev pub month_of : List ℕ → ℕ
month_of s = number_of (cols 5 6 s)

abbrev pub day_of : List ℕ → ℕ
day_of s = number_of (cols 7 8 s)

abbrev pub hour_of : List ℕ → ℕ
hour_of s = number_of (cols 9 10 s)

abbrev pub minute_of : List ℕ → ℕ
minute_of s = number_of (cols 11 12 s)

abbrev pub second_of : List ℕ → ℕ
second_of s = number_of (cols 13 14 s)

-- year 0001 to 9999, a month 01 to 12, a day that the month has; of digits, of which the first eight are the date
abbrev pub date_faults : List ℕ → List (Row Checked)
date_faults s =
    (eqb (year_of s) 0 ⇒ Err (Wrong Year))
    ∷ (eqb (month_of s) 0 ⇒ Err (Wrong Month))
    ∷ (ltb 12 (month_of s) ⇒ Err (Wrong Month))
    ∷ (eqb (day_of s) 0 ⇒ Err (Wrong Day))
    ∷ (ltb (days_in (year_of s) (month_of s)) (day_of s) ⇒ Err (Wrong Day))
    ∷ []

unfoldable pub date_fault : List ℕ → Checked
date_fault s = first_of (date_faults s) (Ok tt)

-- hour 00 to 23, minute and second 00 to 59; of digits
abbrev pub time_faults : List ℕ → List (Row Checked)
time_faults s =
    (ltb 23 (hour_of s) ⇒ Err (Wrong Hour))
    ∷ (ltb 59 (minute_of s) ⇒ Err (Wrong Minute))
    ∷ (ltb 59 (second_of s) ⇒ Err (Wrong Second))
    ∷ []

unfoldable pub time_fault : List ℕ → Checked
time_fault s = first_of (time_faults s) (Ok tt)

abbrev pub is_real : Checked → Bool
is_real checked = is_ok checked

-- so many bytes, and each of them a digit
abbrev pub digit_rows : ℕ → List ℕ → List (Row Checked)
digit_rows width s =
    (not (eqb (length s) width) ⇒ Err OtherLength)
    ∷ (not (all_digits s) ⇒ Err (Wrong Character))
    ∷ []

unfoldable pub check_digits : ℕ → List ℕ → Checked
check_digits width s = first_of (digit_rows width s) (Ok tt)

-- a date of eight bytes
abbrev pub date_rows : List ℕ → List (Row Checked)
date_rows s = digit_rows 8 s

unfoldable pub check_date : List ℕ → Checked
check_date s = first_of (date_rows s) (date_fault s)

-- a moment of fourteen bytes: a character that is no digit goes before every part, and the date before the time
abbrev pub moment_rows : List ℕ → List (Row Checked)
moment_rows s =
    (not (eqb (length s) 14) ⇒ Err OtherLength)
    ∷ (not (all_digits s) ⇒ Err (Wrong Character))
    ∷ (not (is_real (date_fault s)) ⇒ date_fault s)
    ∷ []

unfoldable pub check_moment : List ℕ → Checked
check_moment s = first_of (moment_rows s) (time_fault s)

unfoldable pub is_date : List ℕ → Bool
is_date s = is_real (check_date s)

unfoldable pub is_moment : List ℕ → Bool
is_moment s = is_real (check_moment s)

-- digits, some columns of which are to be read
pub record Numbered (s : List ℕ) (c : Columns) : Type 0 where
  pub digits : all_digits s ≡ true
  pub inside : Inside c (length s)
  pub few : c.to + 1 ≤ c.from + 15
