-- Two books that differ only in lease references. The width `w` of a period is a parameter. Assumes nothing.
use Rattle.std.specs.Prelude.{◌≡◌, List, ℕ, ◌+◌, ◌≤◌, ◌<◌, length, get_or}
use Rattle.book.specs.Layout.{agreements, body_place}

-- byte k, counted from 0, is in no lease reference: the first 12 bytes of a body
abbrev pub OutsideLeases : ℕ → List ℕ → ℕ → Type 0
OutsideLeases w book k = (i : ℕ) → i < agreements book → body_place w book i ≤ k → k < body_place w book i + 12 → ⊥

-- of one length, and alike but in the lease references of a's agreements. Nothing is asked of the form of either
pub record SameButLeases (w : ℕ) (a b : List ℕ) : Type 0 where
  pub long : length a ≡ length b
  pub alike : (k : ℕ) → OutsideLeases w a k → get_or a k 0 ≡ get_or b k 0
