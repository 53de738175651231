-- A text put into a place of a buffer. Assumes nothing.
use Rattle.std.specs.Prelude.{◌≡◌, List, ◌++◌, ℕ, ◌+◌, length, take, drop}

-- xs with ys in the place of as many of its elements from `at` on
unfoldable pub splice : List ℕ → ℕ → List ℕ → List ℕ
splice xs at ys = take at xs ++ ys ++ drop (at + length ys) xs

-- a text was put into out at a place: r is the place after it, and out' is what out holds then
pub record Put (text : List ℕ) (at : ℕ) (out : List ℕ) (r : ℕ) (out' : List ℕ) : Type 0 where
  pub place : r ≡ at + length text
  pub spliced : out' ≡ splice out at text
