-- The form of a job: eight lengths of four bytes, then the eight bodies back to back. Assumes nothing.
use Rattle.std.specs.Prelude.{◌≡◌, Bool, ◌&&◌, List, ℕ, ◌+◌, ◌*◌, ◌<◌, length, take, drop, eqb, leb}
use Rattle.lines.specs.Below.{sum_below}
use Rattle.lines.specs.Number.{big_endian}

-- the length of body k, counted from 0
unfoldable pub length_at : List ℕ → ℕ → ℕ
length_at job k = big_endian (take 4 (drop (4 * k) job))

-- where body k begins; the lengths are added exactly
unfoldable pub body_place : List ℕ → ℕ → ℕ
body_place job k = 32 + sum_below k (length_at job)

-- body k
unfoldable pub body_of : List ℕ → ℕ → List ℕ
body_of job k = take (length_at job k) (drop (body_place job k) job)

-- a job: at most 65,536 bytes, at least 32, and filled exactly by its lengths
unfoldable pub is_job : List ℕ → Bool
is_job job = leb (length job) 65536 && (leb 32 (length job) && eqb (body_place job 8) (length job))

-- a length, and that it has four bytes
pub record LengthAt (job : List ℕ) (k r : ℕ) : Type 0 where
  pub value : r ≡ length_at job k
  pub small : r < 4294967296
