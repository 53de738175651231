-- The worked lines on a period from 20260101000000 to 20260301000000, in a book of one agreement. Assumes nothing.
use Rattle.std.specs.Prelude.{◌≡◌, refl, true, List, [], ◌∷◌, ◌++◌, ℕ, replicate, Option, Some, None}
use Rattle.lines.specs.Below.{all_below, some_below, first_below}
use Rattle.lines.specs.Class.{is_digit, is_capital, is_of, byte_is, all_bytes, all_of, place_of, padded_with, filled_with}
use Rattle.lines.specs.FirstOf.{first_of}
use Rattle.lines.specs.Number.{value_below, all_digits, number_of, big_endian, digits_of}
use Rattle.lines.specs.Rows.{line_of}
use Rattle.lines.specs.Same.{differ_at, first_difference, same, before}
use Rattle.moment.specs.Calendar.{is_leap, days_in}
use Rattle.moment.specs.Moment.{date_fault, time_fault, check_moment}
use Rattle.plate.specs.Plate.{all_plate_bytes, padded_plate, is_filled, two_of, plate_in_book}
use Rattle.plate.specs.Set.{is_small, is_marked_letter, is_plate_byte}
use Rattle.book.specs.Layout.{width, agreements, pan_of, offset_of, body_head, periods_at, period_of, body_end, body_place}
use Rattle.book.specs.Form.{end_form, period_form, follows_at, period_sound_at, periods_sound, body_sound, rises_at, entry_sound_at, entries_sound, agreement_sound, agreement_sound_at, bodies_sound, head_sound, book_sound}
use Rattle.cover.specs.Cover.{in_time, leased_to, period_covers, covers_at, covering_period, has_cover, pan_is, agreement_of, covering_agreement, cover_in, cover_of}
use Rattle.cover.specs.declared.cover.Place.{Place}

abbrev blanks : ℕ → List ℕ
blanks n = replicate n 32

-- PAN 7, plate AB1 of nation NO
abbrev pub pan : List ℕ
pan = (55 ∷ []) ++ blanks 18

abbrev pub plate : List ℕ
plate = (65 ∷ 66 ∷ 49 ∷ []) ++ blanks 7

abbrev pub nation : List ℕ
nation = 78 ∷ 79 ∷ []

abbrev pub start : List ℕ
start = digits_of 14 20260101000000

abbrev pub end : List ℕ
end = digits_of 14 20260301000000

-- one agreement, whose body stands at 25 and has one period
abbrev pub book : List ℕ
book = (0 ∷ 1 ∷ []) ++ (pan ++ (0 ∷ 0 ∷ 0 ∷ 25 ∷ [])) ++ (replicate 12 0 ++ (0 ∷ 1 ∷ [])) ++ (plate ++ nation ++ start ++ end)

-- what covers a passage of this plate with a PAN, all blanks or not, at a moment
abbrev covered : List ℕ → ℕ → Option Place
covered p moment = cover_of width book p (digits_of 14 moment) plate nation

abbrev first : Option Place
first = Some (record { agreement = 1; period = 1 })

pub sound : book_sound width book ≡ true
unfolding book_sound head_sound entries_sound entry_sound_at rises_at bodies_sound agreement_sound_at agreement_sound body_sound periods_sound period_sound_at follows_at period_form end_form agreements pan_of offset_of body_head periods_at period_of body_end body_place all_below some_below first_below is_digit is_capital is_of byte_is all_bytes all_of place_of padded_with filled_with first_of value_below all_digits number_of big_endian digits_of line_of differ_at first_difference same before is_leap days_in date_fault time_fault check_moment all_plate_bytes padded_plate is_filled two_of plate_in_book is_small is_marked_letter is_plate_byte
sound = refl

-- by PAN and by plate: the last second of the period is covered and its end is not, its start is covered and the second before it is not; another PAN is not covered
pub worked :
    (covered pan 20260228235959 ∷ covered pan 20260301000000 ∷ covered pan 20260101000000 ∷ covered pan 20251231235959
    ∷ covered (blanks 19) 20260228235959 ∷ covered (blanks 19) 20260301000000 ∷ covered (blanks 19) 20260101000000 ∷ covered (blanks 19) 20251231235959
    ∷ covered ((56 ∷ []) ++ blanks 18) 20260228235959 ∷ [])
    ≡ (first ∷ None ∷ first ∷ None ∷ first ∷ None ∷ first ∷ None ∷ None ∷ [])
unfolding cover_of cover_in covering_agreement agreement_of pan_is has_cover covering_period covers_at period_covers leased_to in_time agreements pan_of body_head periods_at period_of body_end body_place all_below some_below first_below is_of byte_is all_bytes all_of value_below big_endian digits_of line_of differ_at first_difference same before
worked = refl
