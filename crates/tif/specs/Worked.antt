-- The worked lines on the sequence of a name, and on 9,999 and 10,000 lines. Assumes nothing.
use Rattle.std.specs.Prelude.{◌≡◌, refl, true, false, not, List, [], ◌∷◌, ◌++◌, ℕ, length, Err, Option, Some, None}
use Rattle.std.proofs.Common.{sym, ap}
use Rattle.lines.specs.Below.{all_below, some_below, first_below}
use Rattle.lines.specs.Class.{is_digit, is_capital, is_of, byte_is, all_bytes, all_of}
use Rattle.lines.specs.FirstOf.{first_of, picked, here, past}
use Rattle.lines.specs.Number.{value_below, all_digits, number_of}
use Rattle.lines.specs.Rows.{file_length, count_fits, line_count, framed_lines}
use Rattle.lines.specs.RowsLaws.{framed_not_fits}
use Rattle.lines.specs.Same.{differ_at, first_difference, same}
use Rattle.moment.specs.Calendar.{is_leap, days_in}
use Rattle.moment.specs.Moment.{date_fault, check_date, is_date}
use Rattle.tif.specs.Acceptance.{is_framed, acceptance_of}
use Rattle.tif.specs.Columns.{tif_layout}
use Rattle.tif.specs.Every.{every}
use Rattle.tif.specs.Received.{is_received}
use Rattle.tif.specs.declared.acceptance.FileFault.{FileFault}
use Rattle.tif.specs.Name.{is_actor, is_sequence, is_file_stem, is_name}

-- `TIF10012320260615`, a sequence, `_20000_b_130001`
abbrev pub name_of : List ℕ → List ℕ
name_of sequence =
    (84 ∷ 73 ∷ 70 ∷ 49 ∷ 48 ∷ 48 ∷ 49 ∷ 50 ∷ 51 ∷ 50 ∷ 48 ∷ 50 ∷ 54 ∷ 48 ∷ 54 ∷ 49 ∷ 53 ∷ [])
    ++ sequence
    ++ (95 ∷ 50 ∷ 48 ∷ 48 ∷ 48 ∷ 48 ∷ 66 ∷ 95 ∷ 49 ∷ 51 ∷ 48 ∷ 48 ∷ 48 ∷ 49 ∷ [])

-- sequence 0000 gives E1; 0001 and 9999 pass
pub sequences :
    (is_name (name_of (48 ∷ 48 ∷ 48 ∷ 48 ∷ [])) ≡ false)
    × (is_name (name_of (48 ∷ 48 ∷ 48 ∷ 49 ∷ [])) ≡ true)
    × (is_name (name_of (57 ∷ 57 ∷ 57 ∷ 57 ∷ [])) ≡ true)
unfolding is_name is_file_stem every is_actor is_sequence same first_difference differ_at first_below some_below all_below all_of all_bytes byte_is is_of is_digit is_capital all_digits number_of value_below is_date check_date date_fault days_in is_leap first_of
sequences = (refl, refl, refl)

-- the length of 9,999 lines is that of a file, and that of 10,000 is not
pub most_lines :
    (line_count tif_layout (file_length tif_layout 9999) ≡ Some 9999)
    × (line_count tif_layout (file_length tif_layout 10000) ≡ None)
unfolding line_count count_fits
most_lines = (refl, refl)

-- so a new file of 10,000 lines gives 05, whatever they hold
pub ten_thousand : (name names tif : List ℕ) → is_received names name ≡ false → length tif ≡ file_length tif_layout 10000 → acceptance_of name names tif ≡ Err FileFault.OutOfForm
unfolding acceptance_of count_fits
ten_thousand name names tif fresh long =
    let out : framed_lines tif_layout tif ≡ None = framed_not_fits tif_layout tif (ap (count_fits tif_layout) long) in
    sym (picked (past fresh (here (ap (λ (l : Option ℕ). not (is_framed l)) out))))
