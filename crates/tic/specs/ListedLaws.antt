-- Where listed line k stands in a TIC that reads, and which parts are shown. Assumes nothing.
use Rattle.std.specs.Prelude.{◌≡◌, refl, List, ℕ, ◌+◌, ◌-◌, ◌<◌, take, drop, Result, Ok, Err}
use Rattle.std.proofs.Common.{sym, ◌∙◌, zero-add, take-take}
use Rattle.std.proofs.Math.Path.{ap}
use native.Mathlib.Omega.{arith}
use Rattle.lines.specs.FirstOf.{picked, here, past, none}
use Rattle.lines.specs.Rows.{line_place, header_of, line_of}
use Rattle.lines.specs.Tests.{tests}
use Rattle.tif.specs.PartLaws.{part_part}
use Rattle.tic_text.specs.Columns.{tic_layout, shown_part, code_part}
use Rattle.tic.specs.Listed.{listed_place, place_of, listed_line, shown_line, shown_code}
use Rattle.tic_parts.specs.Reading.{row_at, tic_header, read_tic}
use Rattle.tic.specs.declared.listed.ListedPlace.{ListedPlace}
use Rattle.tic.specs.declared.listed.ListedFault.{ListedFault}
use Rattle.tic.specs.declared.listed.ListedFault.TheVariants.{NoSuchLine}
use Rattle.tic_text.specs.declared.values.TicValues.{TicValues}

-- a part of the header is that part of the TIC
pub header_part : (tic : List ℕ) (i n : ℕ) → i + n < 197 → take n (drop i (tic_header tic)) ≡ take n (drop i tic)
unfolding header_of
header_part tic i n h = part_part n i 196 0 tic (omega arith) ∙ rw (zero-add i)

module _ (tic : List ℕ) (v : TicValues) (e : read_tic tic ≡ Ok v) where
  place_is : (k : ℕ) → k < v.listed → listed_line tic (k + 1) ≡ Ok (place_of (line_place tic_layout k))
  unfolding listed_line listed_place
  place_is k h =
      let p : k + 1 - 1 ≡ k = omega arith in
      rw e (sym (picked (past (omega tests) (past (omega tests) none))) ∙ ap {B = Result ListedPlace ListedFault} (λ (m : ℕ). Ok (place_of (line_place tic_layout m))) p)

  -- columns 1 to 809, and 810 and 811, of listed line k
  pub line_shown_lem : (k : ℕ) → k < v.listed → shown_line tic (listed_line tic (k + 1)) ≡ shown_part (row_at tic k)
  unfolding line_of
  line_shown_lem k h = rw (place_is k h) (sym (take-take 809 812 (drop (line_place tic_layout k) tic) (omega arith)))

  pub code_shown_lem : (k : ℕ) → k < v.listed → shown_code tic (listed_line tic (k + 1)) ≡ code_part (row_at tic k)
  unfolding line_of
  code_shown_lem k h = rw (place_is k h) (sym (part_part 2 809 812 (line_place tic_layout k) tic (omega arith)))

  -- T6
  pub none_at_zero : listed_line tic 0 ≡ Err NoSuchLine
  unfolding listed_line listed_place
  none_at_zero = rw e (sym (picked (here refl)))

  pub none_above : (k : ℕ) → v.listed < k → listed_line tic k ≡ Err NoSuchLine
  unfolding listed_line listed_place
  none_above k h = rw e (sym (picked (past (omega tests) (here (omega tests)))))
