-- What the answers mean: a member is a line that is there, and of lines that are all different no two agree. Assumes nothing.
use Rattle.std.specs.Prelude.{◌≡◌, Bool, true, false, List, ℕ, ◌<◌}
use Rattle.std.proofs.lemmas.Bool.{not-true}
use Rattle.lines.specs.Below.{first_below}
use Rattle.lines.specs.BelowLaws.{all_at, some_hit, some_none, first_is}
use Rattle.lines.specs.declared.rows.Layout.{Layout}
use Rattle.chains.specs.Index.{agrees_with, member_of, agrees_here, repeated_at, fresh_at, all_different}
use Rattle.lines.specs.declared.columns.Columns.{Columns}

-- a number below n of which p holds
pub record Found (n : ℕ) (p : ℕ → Bool) : Type 0 where
  pub at : ℕ
  pub below : at < n
  pub agrees : p at ≡ true

module _ (l : Layout) (file : List ℕ) (spans : List Columns) (n : ℕ) where
  -- where there is a member, one of the first n lines agrees
  pub member_there : (ts : List Columns) (other : List ℕ) → member_of l file spans n ts other ≡ true → Found n (agrees_with l file spans ts other)
  unfolding member_of
  member_there ts other e =
      let f = first_is (agrees_with l file spans ts other) n e in
      record { at = first_below n (agrees_with l file spans ts other); below = f.0; agrees = f.1 }

  -- where one of the first n lines agrees, there is a member
  pub there_member : (ts : List Columns) (other : List ℕ) (k : ℕ) → k < n → agrees_with l file spans ts other k ≡ true → member_of l file spans n ts other ≡ true
  unfolding member_of
  there_member ts other k h e = some_hit (agrees_with l file spans ts other) n k h e

  -- of lines that are all different no two agree
  pub different_apart : all_different l file spans n ≡ true → (i k : ℕ) → i < k → k < n → agrees_here l file spans k i ≡ false
  unfolding all_different fresh_at repeated_at
  different_apart e i k h m = some_none (agrees_here l file spans k) k (not-true _ (all_at (fresh_at l file spans) n e k m)) i h
