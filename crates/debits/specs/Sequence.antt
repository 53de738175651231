-- Demand 3 over a sequence: files judged one after the other on the marks that are handed on, and unmarked debits added at the end in between.
-- Assumes nothing.
use Rattle.std.specs.Prelude.{◌≡◌, Bool, cond, List, [], ◌∷◌, ◌++◌, ℕ, ◌<◌, length, get_or, replicate}
use Rattle.lines.specs.Below.{join_below}
use Rattle.debits.specs.Credits.{marks_after, place_at, credit_accepted}

-- open debits with their marks
pub record Open : Type 0 where
  pub debits : List ℕ
  pub marks : List ℕ

-- a step: a file of so many credits is judged, or so many debits are added
pub data Step : Type 0 where
  judged : (lines : ℕ) (credits : ℕ → List ℕ) (reaches : ℕ → Bool) → Step
  added : (new : List ℕ) (count : ℕ) → Step

-- the open debits after a step: a file hands its marks on, added debits stand at the end and are unmarked
unfoldable pub open_after : Step → Open → Open
open_after (judged lines credits reaches) o = record { debits = o.debits; marks = marks_after o.debits credits reaches o.marks lines }
open_after (added new count) o = record { debits = o.debits ++ new; marks = o.marks ++ replicate count 0 }

-- the place that line k of a file takes, where it is accepted
unfoldable pub place_if_taken : List ℕ → (ℕ → List ℕ) → (ℕ → Bool) → List ℕ → ℕ → List ℕ
place_if_taken debits credits reaches marks k = cond (credit_accepted debits credits reaches marks k) (place_at debits credits reaches marks k ∷ []) []

-- the places that a step takes, in file order
unfoldable pub places_of : Step → Open → List ℕ
places_of (judged lines credits reaches) o = join_below lines (place_if_taken o.debits credits reaches o.marks)
places_of (added new count) o = []

-- the places that a whole sequence takes
unfoldable pub places_taken : List Step → Open → List ℕ
places_taken [] o = []
places_taken (step ∷ steps) o = places_of step o ++ places_taken steps (open_after step o)

-- no place stands twice in the list
abbrev pub NoneTwice : List ℕ → Type 0
NoneTwice places = (a b : ℕ) → a < length places → b < length places → get_or places a 0 ≡ get_or places b 0 → a ≡ b
