-- A walk down a chain to the last line that agrees: what is known at each of its lines. Assumes nothing.
use Rattle.std.specs.Prelude.{◌≡◌, List, ℕ}
use Rattle.lines.specs.declared.rows.Layout.{Layout}
use Rattle.chains.specs.Last.{last_below}
use Rattle.chains.specs.Index.{agrees_with}
use Rattle.chains.specs.Chain.{OnChain}
use Rattle.lines.specs.declared.columns.Columns.{Columns}

-- on the way from `start` down to `link` no line that agrees was passed, so that the last below is still to come
pub record OnLastChain (l : Layout) (file : List ℕ) (spans : List Columns) (start : ℕ) (ts : List Columns) (other : List ℕ) (link : ℕ) : Type 0 where
  pub on : OnChain l file spans start ts other link
  pub last : last_below link (agrees_with l file spans ts other) ≡ last_below start (agrees_with l file spans ts other)
