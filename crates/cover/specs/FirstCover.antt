-- The first place in book order that covers a passage. Assumes nothing.
use Rattle.std.specs.Prelude.{◌≡◌, ◌⊎◌, Bool, true, not, ◌&&◌, ◌||◌, List, ℕ, ◌<◌}
use Rattle.book.specs.Layout.{agreements, periods_at, body_place}
use Rattle.cover.specs.Cover.{Asked, covers_at, pan_is}

-- the paper's rule for period j of agreement i: with a PAN that is not all blanks a period of that agreement, with a blank one a period with the plate and nation; in both the time rule
unfoldable pub place_covers : ℕ → List ℕ → List ℕ → Asked → ℕ → ℕ → Bool
place_covers w book pan q i j = (not q.named || pan_is book pan i) && covers_at w book (body_place w book i) q j

-- a place of the book that covers
pub record Covers (w : ℕ) (book pan : List ℕ) (q : Asked) (i j : ℕ) : Type 0 where
  pub agreement : i < agreements book
  pub period : j < periods_at book (body_place w book i)
  pub covers : place_covers w book pan q i j ≡ true

-- book order: agreements in order, and the periods of each in order
abbrev pub Precedes : ℕ → ℕ → ℕ → ℕ → Type 0
Precedes i j i' j' = (i < i') ⊎ ((i ≡ i') × (j < j'))

-- it covers, and none before it does
pub record FirstCover (w : ℕ) (book pan : List ℕ) (q : Asked) (i j : ℕ) : Type 0 where
  pub here : Covers w book pan q i j
  pub none : (i' j' : ℕ) → Precedes i' j' i j → Covers w book pan q i' j' → ⊥
