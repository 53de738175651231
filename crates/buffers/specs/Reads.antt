-- What a read that fails leaves of the bytes that a reader is known to have. Assumes nothing.
use Rattle.std.specs.Prelude.{ℕ, ◌≤◌, List, Option, length}
use Rattle.std.specs.Io.KnownBytes.{Consumes}

-- some of the bytes may be gone, from the front and no more than n
pub record LosesAtMost (old new : Option (List ℕ)) (n : ℕ) : Type 0 where
  pub gone : List ℕ
  pub taken : Consumes old new gone
  pub few : length gone ≤ n
