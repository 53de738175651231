-- How an acceptance is shown by its rows, and what it shows that a file is to be judged line by line. Assumes nothing.
use Rattle.std.specs.Prelude.{◌≡◌, ◌≤◌, List, ℕ, length, Ok, Some}
use Rattle.std.proofs.Common.{sym, ◌∙◌}
use Rattle.std.proofs.Math.Path.{ap}
use Rattle.lines.specs.FirstOf.{Picks, picked, first_of}
use Rattle.lines.specs.Rows.{most_lines, file_length, framed_lines}
use Rattle.lines.specs.RowsLaws.{framed_is, header_length, footer_length}
use Rattle.tif.specs.Acceptance.{Acceptance, framed_count, acceptance_rows, whole_of, acceptance_of}
use Rattle.tif.specs.Columns.{tif_layout}

module _ (name names tif : List ℕ) (n : ℕ) where
  -- the rows of a file of n lines give its acceptance
  pub accepted : {r : Acceptance} → framed_lines tif_layout tif ≡ Some n → Picks (acceptance_rows name names tif n) (Ok (whole_of tif n)) r → r ≡ acceptance_of name names tif
  unfolding acceptance_of
  accepted e p = picked p ∙ ap (λ (m : ℕ). first_of (acceptance_rows name names tif m) (Ok (whole_of tif m))) (sym (ap framed_count e))

-- a file whose lines are counted is as long as its parts
module _ (tif : List ℕ) (n : ℕ) where
  pub framed_long : framed_lines tif_layout tif ≡ Some n → length tif ≡ file_length tif_layout n
  framed_long e = (framed_is tif_layout tif n e).counted.long

  pub framed_few : framed_lines tif_layout tif ≡ Some n → n ≤ most_lines
  framed_few e = (framed_is tif_layout tif n e).counted.few

-- what cutting a file into its parts rests on
pub ruleset framing = (framed_long, framed_few, header_length, footer_length)
