-- The form of an agreement book (E5), on any bytes. The width `w` of a period is a parameter. Assumes nothing.
use Rattle.std.specs.Prelude.{◌≡◌, Bool, true, not, ◌&&◌, ◌||◌, cond, List, [], ◌∷◌, ℕ, ◌+◌, ◌-◌, ◌≤◌, ◌<◌, length, eqb, leb, Result, Ok, Err, is_ok}
use Rattle.lines.specs.Below.{all_below}
use Rattle.lines.specs.Class.{all_of, filled_with}
use Rattle.lines.specs.FirstOf.{Row, ◌⇒◌, first_of}
use Rattle.lines.specs.Rows.{line_place}
use Rattle.lines.specs.Same.{before}
use Rattle.lines.specs.declared.class.Class.TheVariants.{Digit, Only}
use Rattle.moment.specs.Moment.{Checked, is_real, check_moment}
use Rattle.plate.specs.Plate.{plate_in_book}
use Rattle.book.specs.Layout.{agreements, entry_layout, pan_of, offset_of, periods_at, period_of, body_end, body_place, plate_part, nation_part, start_part, end_part}
use Rattle.book.specs.declared.form.PeriodFault.{PeriodFault}
use Rattle.book.specs.declared.form.PeriodFault.TheVariants.{WrongMoment, OtherFault}

-- no book has more bytes, no book more agreements, no agreement more periods
abbrev pub most_bytes : ℕ
most_bytes = 1048576

abbrev pub most_agreements : ℕ
most_agreements = 1000

abbrev pub most_periods : ℕ
most_periods = 64

-- an end is a real moment; in the last period it may be fourteen nines, meaning none
unfoldable pub end_form : Bool → List ℕ → Checked
end_form last end = cond (last && all_of (Only 57) end) (Ok tt) (check_moment end)

-- in form, or what is wrong with it
abbrev pub PeriodForm : Type 0
PeriodForm = Result (Unit {0}) PeriodFault

-- a moment that is not real goes with what is wrong with it
abbrev pub wrong_moment : Checked → PeriodForm
wrong_moment (Ok t) = Ok tt
wrong_moment (Err fault) = Err (WrongMoment fault)

-- plate and nation as a book has them, a real start, an end, and the start before the end
abbrev pub period_faults : Bool → List ℕ → List (Row PeriodForm)
period_faults last period =
    (not (plate_in_book (plate_part period) (nation_part period)) ⇒ Err OtherFault)
    ∷ (not (is_real (check_moment (start_part period))) ⇒ wrong_moment (check_moment (start_part period)))
    ∷ (not (is_real (end_form last (end_part period))) ⇒ wrong_moment (end_form last (end_part period)))
    ∷ (not (before (start_part period) (end_part period)) ⇒ Err OtherFault)
    ∷ []

unfoldable pub period_form : Bool → List ℕ → PeriodForm
period_form last period = first_of (period_faults last period) (Ok tt)

abbrev pub in_form : PeriodForm → Bool
in_form form = is_ok form

-- a period starts at or after the end before it
unfoldable pub follows_at : ℕ → List ℕ → ℕ → ℕ → Bool
follows_at w book at j = eqb j 0 || not (before (start_part (period_of w book at j)) (end_part (period_of w book at (j - 1))))

-- period j of n
unfoldable pub period_sound_at : ℕ → List ℕ → ℕ → ℕ → ℕ → Bool
period_sound_at w book at n j = in_form (period_form (eqb (j + 1) n) (period_of w book at j)) && follows_at w book at j

unfoldable pub periods_sound : ℕ → List ℕ → ℕ → ℕ → Bool
periods_sound w book at n = all_below n (period_sound_at w book at n)

-- a body stands whole in the book, with 1 to 64 periods, each sound
unfoldable pub body_sound : ℕ → List ℕ → ℕ → Bool
body_sound w book at =
    leb (at + 14) (length book)
    && (leb 1 (periods_at book at)
    && (leb (periods_at book at) most_periods
    && (leb (body_end w book at) (length book)
    && periods_sound w book at (periods_at book at))))

-- PANs rise strictly by bytes
unfoldable pub rises_at : List ℕ → ℕ → Bool
rises_at book i = eqb i 0 || before (pan_of book (i - 1)) (pan_of book i)

-- a PAN is one or more digits, then blanks
unfoldable pub entry_sound_at : List ℕ → ℕ → Bool
entry_sound_at book i = filled_with Digit (pan_of book i) && rises_at book i

unfoldable pub entries_sound : List ℕ → Bool
entries_sound book = all_below (agreements book) (entry_sound_at book)

-- the entry of agreement i has the place of its body, and the body is sound
unfoldable pub agreement_sound : ℕ → List ℕ → ℕ → ℕ → Bool
agreement_sound w book i at = eqb (offset_of book i) at && body_sound w book at

unfoldable pub agreement_sound_at : ℕ → List ℕ → ℕ → Bool
agreement_sound_at w book i = agreement_sound w book i (body_place w book i)

-- bodies in the order of the entries, with no gap and nothing after
unfoldable pub bodies_sound : ℕ → List ℕ → Bool
bodies_sound w book = all_below (agreements book) (agreement_sound_at w book) && eqb (body_place w book (agreements book)) (length book)

-- two bytes for the number of agreements, 0 to 1,000, and their entries; at most 1,048,576 bytes
unfoldable pub head_sound : List ℕ → Bool
head_sound book =
    leb 2 (length book)
    && (leb (length book) most_bytes
    && (leb (agreements book) most_agreements
    && leb (line_place entry_layout (agreements book)) (length book)))

unfoldable pub book_sound : ℕ → List ℕ → Bool
book_sound w book = head_sound book && (entries_sound book && bodies_sound w book)

-- E5: whether bytes are of the form of a book
abbrev pub book_form : ℕ → List ℕ → Bool
book_form w book = book_sound w book

-- what a sound head shows
pub record Headed (book : List ℕ) : Type 0 where
  pub enough : 2 ≤ length book
  pub short : length book ≤ most_bytes
  pub few : agreements book ≤ most_agreements
  pub entries : line_place entry_layout (agreements book) ≤ length book

-- what a sound body shows
pub record Body (w : ℕ) (book : List ℕ) (at : ℕ) : Type 0 where
  pub head : at + 14 ≤ length book
  pub some : 1 ≤ periods_at book at
  pub most : periods_at book at ≤ most_periods
  pub inside : body_end w book at ≤ length book
  pub periods : periods_sound w book at (periods_at book at) ≡ true

-- what a sound book shows: entries with PANs that rise, bodies inside it where the entries say, and nothing after them
pub record Whole (w : ℕ) (book : List ℕ) : Type 0 where
  pub headed : Headed book
  pub digits : (i : ℕ) → i < agreements book → filled_with Digit (pan_of book i) ≡ true
  pub rising : (i : ℕ) → i + 1 < agreements book → before (pan_of book i) (pan_of book (i + 1)) ≡ true
  pub offsets : (i : ℕ) → i < agreements book → offset_of book i ≡ body_place w book i
  pub bodies : (i : ℕ) → i < agreements book → Body w book (body_place w book i)
  pub ends : body_place w book (agreements book) ≡ length book
