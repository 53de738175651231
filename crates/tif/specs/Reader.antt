-- What a reader shows at a place of a file. Assumes nothing.
use Rattle.std.specs.Prelude.{List, ℕ, take, drop}
use Rattle.passage.specs.Passage.{line_width}

-- the line that begins at a place of the file
abbrev pub line_from : ℕ → List ℕ → List ℕ
line_from at file = take line_width (drop at file)
