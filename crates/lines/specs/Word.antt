-- Two, four and eight bytes of a text as one number, the first of them the highest, and where such words decide how two texts compare.
-- Assumes nothing.
use Rattle.std.specs.Prelude.{◌≡◌, List, ℕ, ◌+◌, ◌*◌, ◌≤◌, ◌<◌, length, get_or}

abbrev pub pair_at : List ℕ → ℕ → ℕ
pair_at s i = get_or s (i + 1) 0 + get_or s i 0 * 256

abbrev pub four_at : List ℕ → ℕ → ℕ
four_at s i = pair_at s (i + 2) + pair_at s i * 65536

abbrev pub word_at : List ℕ → ℕ → ℕ
word_at s i = four_at s (i + 4) + four_at s i * 4294967296

-- the bytes before i are the same
abbrev pub AlikeBefore : List ℕ → List ℕ → ℕ → Type 0
AlikeBefore a b i = (j : ℕ) → j < i → get_or a j 0 ≡ get_or b j 0

-- the words at r decide how two texts of one length compare: nothing differs before them, and equal ones are the last
pub record Decides (a b : List ℕ) (r : ℕ) : Type 0 where
  pub alike : AlikeBefore a b r
  pub inside : r + 8 ≤ length a
  pub last : word_at a r ≡ word_at b r → r + 8 ≡ length a
