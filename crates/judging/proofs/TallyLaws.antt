-- What one more line adds to the sums of a file, and that no sum wraps. Assumes nothing.
-- These laws stand here and not in specs/, since a wrong definition of what is counted makes them false: a must-fail edit counts only where nothing in specs/ rests on what it makes false.
use Rattle.std.specs.Prelude.{◌≡◌, refl, false, true, List, ℕ, ◌+◌, ◌<◌, length, get_or}
use Rattle.std.proofs.Common.{arith}
use Rattle.lines.specs.BelowLaws.{sum_zero, sum_suc}
use Rattle.passage.specs.PassageLaws.{gross_small}
use Rattle.tif.specs.Body.{line_at, amount_at}
use Rattle.judging.specs.Sums.{is_accepted, is_counted, one_at, amount_of, tally_with, sums_plus, sums_below, Roomy, Worded}
use Rattle.judging.specs.SumsLaws.{ones_small, amounts_small}

module _ (tif words : List ℕ) where
  pub sums_none : record { accepted = tally_with 0 0; refused = tally_with 0 0 } ≡ sums_below tif words 0
  sums_none = rw (sum_zero (one_at false words), sum_zero (amount_of false tif words), sum_zero (one_at true words), sum_zero (amount_of true tif words)) refl

  pub sums_suc : (k : ℕ) → sums_plus (get_or words k 0) (sums_below tif words k) (amount_at tif k) ≡ sums_below tif words (k + 1)
  unfolding one_at amount_of is_counted is_accepted
  sums_suc k = rw (sum_suc (one_at false words) k, sum_suc (amount_of false tif words) k, sum_suc (one_at true words) k, sum_suc (amount_of true tif words) k) refl

  module _ (w : Worded tif words) (k : ℕ) (h : k < length words) where
    amount_room : amount_at tif k < 100000000000
    unfolding amount_at
    amount_room = omega (arith, gross_small (line_at tif k) (w.digits k h))

    pub room_accepted : Roomy (sums_below tif words k).accepted (amount_at tif k)
    room_accepted =
        record {
          counted = omega (arith, ones_small false words k, w.few, h);
          summed = omega (arith, amounts_small false tif words w k (omega (arith, h)), amount_room, w.few, h);
        }

    pub room_refused : Roomy (sums_below tif words k).refused (amount_at tif k)
    room_refused =
        record {
          counted = omega (arith, ones_small true words k, w.few, h);
          summed = omega (arith, amounts_small true tif words w k (omega (arith, h)), amount_room, w.few, h);
        }
