-- Ranges of bytes, the bounds included. Assumes nothing.
use Rattle.std.specs.Prelude.{Bool, ◌&&◌, ◌||◌, ℕ, leb}
use Rattle.lines.specs.declared.class.Ranges.{Ranges}

abbrev pub between : ℕ → ℕ → ℕ → Bool
between low high b = leb low b && leb b high

-- in one range or in the other
unfoldable pub in_ranges : Ranges → ℕ → Bool
in_ranges r b = between r.one.0 r.one.1 b || between r.other.0 r.other.1 b
