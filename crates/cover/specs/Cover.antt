-- The period that covers a passage (L7), on any bytes. The width `w` of a period is a parameter. Assumes nothing.
use Rattle.std.specs.Prelude.{◌≡◌, Bool, true, not, ◌&&◌, ◌||◌, cond, List, ℕ, ◌+◌, length, ltb, Option, Some, None}
use Rattle.lines.specs.Below.{first_below}
use Rattle.lines.specs.Class.{all_of}
use Rattle.lines.specs.Same.{same, before}
use Rattle.lines.specs.declared.class.Class.TheVariants.{Only}
use Rattle.book.specs.Layout.{agreements, pan_of, periods_at, period_of, body_place, plate_part, nation_part, start_part, end_part}
use Rattle.book.specs.Form.{book_sound}
use Rattle.cover.specs.Rising.{FirstWithin}
use Rattle.cover.specs.declared.cover.Place.{Place}

-- what a passage asks of each period: whether a PAN names the agreement, the moment, and the detected plate with its nation
pub record Asked : Type 0 where
  pub named : Bool
  pub moment : List ℕ
  pub plate : List ℕ
  pub nation : List ℕ

abbrev pub asked : Bool → List ℕ → List ℕ → List ℕ → Asked
asked named moment plate nation = record { named = named; moment = moment; plate = plate; nation = nation }

-- start ≤ moment < end, as written: the end itself is not covered, and fourteen nines come after every moment
unfoldable pub in_time : List ℕ → List ℕ → Bool
in_time moment period = not (before moment (start_part period)) && before moment (end_part period)

-- the period has this plate and nation
unfoldable pub leased_to : List ℕ → List ℕ → List ℕ → Bool
leased_to plate nation period = same (plate_part period) plate && same (nation_part period) nation

-- with a PAN the plate is not compared; with a blank PAN it is
unfoldable pub period_covers : Asked → List ℕ → Bool
period_covers q period = (q.named || leased_to q.plate q.nation period) && in_time q.moment period

-- period j of the body at `at` covers
unfoldable pub covers_at : ℕ → List ℕ → ℕ → Asked → ℕ → Bool
covers_at w book at q j = period_covers q (period_of w book at j)

-- the first period of the body that covers, and the number of periods where none does
unfoldable pub covering_period : ℕ → List ℕ → ℕ → Asked → ℕ
covering_period w book at q = first_below (periods_at book at) (covers_at w book at q)

-- a period of agreement i covers
unfoldable pub has_cover : ℕ → List ℕ → Asked → ℕ → Bool
has_cover w book q i = ltb (covering_period w book (body_place w book i) q) (periods_at book (body_place w book i))

-- the nineteen bytes of agreement i are the PAN
unfoldable pub pan_is : List ℕ → List ℕ → ℕ → Bool
pan_is book pan i = same (pan_of book i) pan

-- the agreement of that PAN, and the number of agreements where there is none
unfoldable pub agreement_of : List ℕ → List ℕ → ℕ
agreement_of book pan = first_below (agreements book) (pan_is book pan)

-- with a PAN, that agreement; with a blank one, the first in book order with a period that covers
unfoldable pub covering_agreement : ℕ → List ℕ → List ℕ → Asked → ℕ
covering_agreement w book pan q = cond q.named (agreement_of book pan) (first_below (agreements book) (has_cover w book q))

-- the place of period j of agreement i, both counted from 1
abbrev pub place_at : ℕ → ℕ → Place
place_at i j = record { agreement = i + 1; period = j + 1 }

-- the first period of agreement i that covers
unfoldable pub cover_in : ℕ → List ℕ → Asked → ℕ → Option Place
cover_in w book q i =
    cond (ltb i (agreements book) && has_cover w book q i)
    (Some (place_at i (covering_period w book (body_place w book i) q)))
    None

-- what the passage asks: a PAN that is not all blanks names its agreement
abbrev pub asking : List ℕ → List ℕ → List ℕ → List ℕ → Asked
asking pan moment plate nation = asked (not (all_of (Only 32) pan)) moment plate nation

-- what covers a passage: the first in book order, or nothing
unfoldable pub cover_of : ℕ → List ℕ → List ℕ → List ℕ → List ℕ → List ℕ → Option Place
cover_of w book pan moment plate nation =
    cover_in w book (asking pan moment plate nation) (covering_agreement w book pan (asking pan moment plate nation))

-- the numbers of the agreement and of the period that cover, from 1, and 0 where nothing does
abbrev pub agreement_number : Option Place → ℕ
agreement_number (Some place) = place.agreement
agreement_number None = 0

abbrev pub period_number : Option Place → ℕ
period_number (Some place) = place.period
period_number None = 0

-- PAN i is at or after the PAN that is looked for
unfoldable pub reached_at : List ℕ → List ℕ → ℕ → Bool
reached_at book pan i = not (before (pan_of book i) pan)

-- a sound book and a moment of fourteen bytes
pub record Ready (w : ℕ) (book moment : List ℕ) : Type 0 where
  pub sound : book_sound w book ≡ true
  pub timed : length moment ≡ 14

-- a sound book and a PAN of nineteen bytes
pub record Named (w : ℕ) (book pan : List ℕ) : Type 0 where
  pub sound : book_sound w book ≡ true
  pub full : length pan ≡ 19

-- the first PAN that is at or after the one looked for is not below `low` and not above `high`
abbrev pub Between : List ℕ → List ℕ → ℕ → ℕ → Type 0
Between book pan low high = FirstWithin (agreements book) (reached_at book pan) low high
