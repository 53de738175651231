-- What reading a case takes from the bytes that a reader is known to have. Assumes nothing.
use Rattle.std.specs.Prelude.{◌≡◌, ◌⊎◌, ℕ, ◌<◌, List, [], ◌∷◌, ◌++◌, Option, Some, None, length, take}
use Rattle.std.specs.Io.KnownBytes.{Consumes, IsAtEnd}
use Rattle.lines.specs.Number.{big_endian}

-- the kind is the next byte, which is gone, or there was no byte
abbrev pub ReadsKind : Option (List ℕ) → Option (List ℕ) → Option ℕ → Type 0
ReadsKind old new (Some k) = Consumes old new (k ∷ [])
ReadsKind old new None = IsAtEnd old

-- the next four bytes are that size, and are gone
pub record ReadsSize (old new : Option (List ℕ)) (size : ℕ) : Type 0 where
  pub head : List ℕ
  pub four : length head ≡ 4
  pub says : size ≡ big_endian head
  pub taken : Consumes old new head

-- the next four bytes are that size, the bytes behind them stand at the front of buf, and all of these are gone
pub record ReadsPart (old new : Option (List ℕ)) (size : ℕ) (buf : List ℕ) : Type 0 where
  pub head : List ℕ
  pub four : length head ≡ 4
  pub says : size ≡ big_endian head
  pub taken : Consumes old new (head ++ take size buf)

-- there is no such part: the bytes end too early, or the next four bytes, which are gone, are a size above room
abbrev pub LacksPart : Option (List ℕ) → Option (List ℕ) → ℕ → Type 0
LacksPart old new room = IsAtEnd new ⊎ ((size : ℕ) × ReadsSize old new size × (room < size))
