-- The rule of the plate set as a table of 256 entries, and how each entry is read. Assumes nothing.
use Rattle.std.specs.Prelude.{◌≡◌, refl, Bool, true, false, cond, ℕ, ◌<◌, get_or, eqb}
use Rattle.std.proofs.Common.{ap, ◌∙◌}
use Rattle.lines.specs.Below.{table_below}
use Rattle.lines.specs.BelowLaws.{table_at}
use Rattle.plate.specs.Set.{is_plate_byte}

-- what the table holds of a byte
unfoldable pub plate_entry : ℕ → ℕ
plate_entry b = cond (is_plate_byte b) 1 0

one_is : (t : Bool) → eqb (cond t 1 0) 1 ≡ t
one_is true = refl
one_is false = refl

-- a table that is, entry for entry, what the rule computes for the 256 bytes answers the rule at each
pub table_rule : (b : ℕ) → b < 256 → eqb (get_or (table_below 256 plate_entry) b 0) 1 ≡ is_plate_byte b
unfolding plate_entry
table_rule b h = ap (λ (x : ℕ). eqb x 1) (table_at plate_entry 256 b 0 h) ∙ one_is (is_plate_byte b)
