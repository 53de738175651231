-- The records of the lines, by their words. Assumes nothing.
use Rattle.std.specs.Prelude.{ℕ, zero, suc, ◌+◌, ◌<◌, ◌≤◌, List, [], ◌∷◌, ◌++◌, length, slice_index}
use Rattle.lines.specs.Rows.{line_place}
use Rattle.passage.specs.Passage.{line_width}
use Rattle.tif.specs.Body.{line_at}
use Rattle.tif.specs.Columns.{tif_layout}
use Rattle.verdicts.specs.Record.{record_of}
use Rattle.verdicts.specs.Verdict.{verdict_of}
use Rattle.verdicts.specs.declared.record.Record.{Record}

-- the record of line k, whose number is counted from 1
unfoldable pub record_at : List ℕ → List ℕ → ℕ → Record
record_at tif words k = record_of (line_at tif k) (k + 1) (verdict_of (slice_index words k))

-- the records of the first n lines
unfoldable pub records_to : List ℕ → List ℕ → ℕ → List Record
records_to tif words zero = []
records_to tif words (suc n) = records_to tif words n ++ (record_at tif words n ∷ [])

-- line k has a word, and the file has the line
pub record LineKnown (tif words : List ℕ) (k : ℕ) : Type 0 where
  pub worded : k < length words
  pub lined : line_place tif_layout k + line_width ≤ length tif
