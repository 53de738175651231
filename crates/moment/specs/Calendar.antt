-- The Gregorian calendar. Assumes nothing.
use Rattle.std.specs.Prelude.{not, List, [], ◌∷◌, ℕ, ◌-◌, ◌%◌, get_or, eqb}
use Rattle.lines.specs.FirstOf.{◌⇒◌, first_of}

-- 1 for a leap year, 0 for an ordinary one: not a fourth year 0, else not a hundredth 1, else not a four-hundredth 0, else 1
unfoldable pub is_leap : ℕ → ℕ
is_leap year =
    first_of (
    (not (eqb (year % 4) 0) ⇒ 0)
    ∷ (not (eqb (year % 100) 0) ⇒ 1)
    ∷ (not (eqb (year % 400) 0) ⇒ 0)
    ∷ []
    ) 1

-- the days of each month, one row for ordinary years and one for leap years
abbrev pub month_lengths : List (List ℕ)
month_lengths =
    (31 ∷ 28 ∷ 31 ∷ 30 ∷ 31 ∷ 30 ∷ 31 ∷ 31 ∷ 30 ∷ 31 ∷ 30 ∷ 31 ∷ [])
    ∷ (31 ∷ 29 ∷ 31 ∷ 30 ∷ 31 ∷ 30 ∷ 31 ∷ 31 ∷ 30 ∷ 31 ∷ 30 ∷ 31 ∷ [])
    ∷ []

-- how many days a month has, counted from 1
unfoldable pub days_in : ℕ → ℕ → ℕ
days_in year month = get_or (get_or month_lengths (is_leap year) []) (month - 1) 0
