-- Texts made of pieces, one behind the other, and a row cut back into pieces. Assumes nothing.
use Rattle.std.specs.Prelude.{List, [], ◌∷◌, ◌++◌, ℕ, ◌+◌, length, map, take, drop}
use denote.Ref.{Bor}

-- the pieces, one behind the other
unfoldable pub joined : List (List ℕ) → List ℕ
joined [] = []
joined (p ∷ ps) = p ++ joined ps

-- the bytes of texts that are lent
abbrev pub texts_of : List (Bor (List ℕ)) → List (List ℕ)
texts_of texts = map (λ (t : Bor (List ℕ)). t.now) texts

-- how wide each piece is
abbrev pub widths_of : List (List ℕ) → List ℕ
widths_of [] = []
widths_of (p ∷ ps) = length p ∷ widths_of ps

-- how wide they are together
abbrev pub total : List ℕ → ℕ
total [] = 0
total (w ∷ ws) = w + total ws

-- the row from a place on, cut into pieces of these widths
abbrev pub cut_from : ℕ → List ℕ → List ℕ → List (List ℕ)
cut_from at [] row = []
cut_from at (w ∷ ws) row = take w (drop at row) ∷ cut_from (at + w) ws row
