-- The code tables of AP-3.7 that a line is held to, as 01 restates them: each is a list of codes of two bytes. Assumes nothing.
use Rattle.std.specs.Prelude.{Bool, List, [], ◌∷◌, ℕ}
use Rattle.std.specs.List.{list_any}
use Rattle.lines.specs.Number.{digits_of}
use Rattle.lines.specs.Same.{same}

-- a code of the table is this one
unfoldable pub is_listed : List (List ℕ) → List ℕ → Bool
is_listed table code = list_any (λ (listed : List ℕ). same listed code) table

-- numbers as codes of two digits
unfoldable pub codes_of : List ℕ → List (List ℕ)
codes_of [] = []
codes_of (n ∷ ns) = digits_of 2 n ∷ codes_of ns

-- Table 1, types of transit: C1, D1, C3, D3, C4, C8, D8, R2
abbrev pub types : List (List ℕ)
types = (67 ∷ 49 ∷ []) ∷ (68 ∷ 49 ∷ []) ∷ (67 ∷ 51 ∷ []) ∷ (68 ∷ 51 ∷ []) ∷ (67 ∷ 52 ∷ []) ∷ (67 ∷ 56 ∷ []) ∷ (68 ∷ 56 ∷ []) ∷ (82 ∷ 50 ∷ []) ∷ []

-- tariff classes
unfoldable pub tariff_classes : List (List ℕ)
tariff_classes = codes_of (1 ∷ 2 ∷ 12 ∷ 22 ∷ 31 ∷ 32 ∷ 41 ∷ 51 ∷ 63 ∷ 71 ∷ [])

-- emissions: 00-07 and 15
unfoldable pub emissions : List (List ℕ)
emissions = codes_of (0 ∷ 1 ∷ 2 ∷ 3 ∷ 4 ∷ 5 ∷ 6 ∷ 7 ∷ 15 ∷ [])

-- fuels: 01-06, 09-15, 20-22
unfoldable pub fuels : List (List ℕ)
fuels = codes_of (1 ∷ 2 ∷ 3 ∷ 4 ∷ 5 ∷ 6 ∷ 9 ∷ 10 ∷ 11 ∷ 12 ∷ 13 ∷ 14 ∷ 15 ∷ 20 ∷ 21 ∷ 22 ∷ [])
