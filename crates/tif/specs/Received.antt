-- The names received before: slots of 35 bytes, one after the other. Assumes nothing.
use Rattle.std.specs.Prelude.{Bool, List, ℕ, ◌/◌, ◌%◌, length, eqb}
use Rattle.lines.specs.Below.{some_below}
use Rattle.lines.specs.Rows.{line_of}
use Rattle.lines.specs.Same.{same}
use Rattle.lines.specs.declared.rows.Layout.{Layout}

-- slots and nothing else
abbrev pub names_layout : Layout
names_layout = record { header = 0; line = 35; footer = 0 }

-- a multiple of 35 bytes, none included (E4)
unfoldable pub names_whole : List ℕ → Bool
names_whole names = eqb (length names % 35) 0

abbrev pub slot_of : List ℕ → ℕ → List ℕ
slot_of names k = line_of names_layout names k

-- slot k holds the name
unfoldable pub holds_name : List ℕ → List ℕ → ℕ → Bool
holds_name names name k = same (slot_of names k) name

-- the name is among those received (02)
unfoldable pub is_received : List ℕ → List ℕ → Bool
is_received names name = some_below (length names / 35) (holds_name names name)
