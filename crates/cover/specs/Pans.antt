-- The index of a book's agreements by their PANs. Assumes nothing.
use Rattle.std.specs.Prelude.{List, [], ◌∷◌, ℕ}
use Rattle.chains.specs.declared.indexing.Index.{Index}
use Rattle.chains.specs.Index.{Indexed}
use Rattle.book.specs.Layout.{agreements, entry_layout}
use Rattle.lines.specs.Columns.{columns}
use Rattle.lines.specs.declared.columns.Columns.{Columns}

-- the PAN of an entry, and all of a PAN that is asked for
abbrev pub pan_span : List Columns
pan_span = columns 1 19 ∷ []

-- the entries are chained by the hash of their PANs
abbrev pub PansIndexed : List ℕ → Index → Type 0
PansIndexed book index = Indexed entry_layout book pan_span (agreements book) index
