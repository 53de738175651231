-- A walk down a chain: where it may start, and what is known at each of its lines. Assumes nothing.
use Rattle.std.specs.Prelude.{◌≡◌, true, List, ℕ, ◌+◌, ◌≤◌}
use Rattle.lines.specs.Below.{some_below}
use Rattle.lines.specs.declared.rows.Layout.{Layout}
use Rattle.chains.specs.Hash.{hash_of}
use Rattle.chains.specs.Index.{Ruled, Asked, agrees_with, hash_is, Linked}
use Rattle.lines.specs.declared.columns.Columns.{Columns}

-- the lines below `start` are linked, and the last of them has the hash of the line that is looked for
pub record Walk (l : Layout) (file : List ℕ) (spans : List Columns) (start : ℕ) (prev : List ℕ) (ts : List Columns) (other : List ℕ) : Type 0 where
  pub ruled : Ruled l file spans start
  pub linked : Linked l file spans start prev
  pub hashed : (j : ℕ) → start ≡ j + 1 → hash_is l file spans (hash_of ts other) j ≡ true
  pub asked : Asked spans ts other

-- on the way from `start` down to `link` nothing that agrees was passed, and the last line below has the hash that is looked for
pub record OnChain (l : Layout) (file : List ℕ) (spans : List Columns) (start : ℕ) (ts : List Columns) (other : List ℕ) (link : ℕ) : Type 0 where
  pub same : some_below link (agrees_with l file spans ts other) ≡ some_below start (agrees_with l file spans ts other)
  pub low : link ≤ start
  pub hashed : (j : ℕ) → link ≡ j + 1 → hash_is l file spans (hash_of ts other) j ≡ true
