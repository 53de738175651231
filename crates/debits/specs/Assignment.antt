-- What demand 3 speaks of: an assignment of separate debits to the credits of one file. Assumes nothing.
use Rattle.std.specs.Prelude.{◌≡◌, Bool, true, ◌&&◌, ◌||◌, List, ℕ, ◌<◌, length, get_or, eqb, ltb}
use Rattle.debits.specs.Taking.{agrees}
use Rattle.debits.specs.Credits.{credit_accepted}

module _ (debits : List ℕ) (credits : ℕ → List ℕ) (reaches : ℕ → Bool) (marks : List ℕ) where
  -- the credits that need a debit each: line k, and each line accepted before it
  unfoldable pub counts : ℕ → ℕ → Bool
  counts k i = eqb i k || (ltb i k && credit_accepted debits credits reaches marks i)

  -- f gives each of these credits the place of a debit: one that is there, agrees with the credit, and was unmarked at the start; and no place twice
  pub record Assignment (k : ℕ) (f : ℕ → ℕ) : Type 0 where
    pub there : (i : ℕ) → counts k i ≡ true → f i < length marks
    pub agreeing : (i : ℕ) → counts k i ≡ true → agrees debits (credits i) (f i) ≡ true
    pub free : (i : ℕ) → counts k i ≡ true → get_or marks (f i) 0 ≡ 0
    pub apart : (i j : ℕ) → counts k i ≡ true → counts k j ≡ true → f i ≡ f j → i ≡ j

  -- there is such an assignment
  pub record Assigned (k : ℕ) : Type 0 where
    pub place : ℕ → ℕ
    pub assignment : Assignment k place

-- the one holds exactly if the other does
pub record Exactly (A B : Type 0) : Type 0 where
  pub only : A → B
  pub whenever : B → A
