-- Two texts compared as written, byte by byte. Assumes nothing.
use Rattle.std.specs.Prelude.{Bool, not, ◌&&◌, List, ℕ, length, get_or, eqb, ltb}
use Rattle.lines.specs.Below.{first_below}

-- the bytes at i differ
unfoldable pub differ_at : List ℕ → List ℕ → ℕ → Bool
differ_at a b i = not (eqb (get_or a i 0) (get_or b i 0))

-- the first place where they differ, and the length where they do not
unfoldable pub first_difference : List ℕ → List ℕ → ℕ
first_difference a b = first_below (length a) (differ_at a b)

-- of one length, and nowhere different
unfoldable pub same : List ℕ → List ℕ → Bool
same a b = eqb (length a) (length b) && eqb (first_difference a b) (length a)

-- a stands before b: the smaller byte where they first differ
unfoldable pub before : List ℕ → List ℕ → Bool
before a b = ltb (first_difference a b) (length a) && ltb (get_or a (first_difference a b) 0) (get_or b (first_difference a b) 0)
