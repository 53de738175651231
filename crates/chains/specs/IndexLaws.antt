-- The index of no lines, and of one line more. Assumes nothing.
use Rattle.std.specs.Prelude.{◌≡◌, refl, Bool, List, ℕ, ◌+◌, ◌*◌, ◌≤◌, ◌<◌, length, set, eqb}
use Rattle.std.proofs.Math.Path.{sym, ap}
use Rattle.std.proofs.Common.{◌∙◌, mul-le-mul_right, arith}
use Rattle.std.proofs.Math.Bool.{true, false}
use borrow.Author.Tests.{eqb-true, eqb-false}
use Rattle.std.proofs.Math.ListN.{get_or}
use Rattle.std.proofs.Math.Seq.{get_or-set_same, get_or-set_other}
use Rattle.lines.specs.BelowLaws.{below_suc}
use Rattle.lines.specs.Rows.{line_place, line_of}
use Rattle.lines.specs.RowsLaws.{line_ends, line_length}
use Rattle.lines.specs.Spans.{spans_in}
use Rattle.lines.specs.declared.rows.Layout.{Layout}
use Rattle.chains.specs.Last.{last_below}
use Rattle.chains.specs.LastLaws.{last_zero, last_hit, last_miss}
use Rattle.chains.specs.HashLaws.{hash_small}
use Rattle.chains.specs.declared.indexing.Index.{Index}
use Rattle.chains.specs.Index.{Ruled, hash_at, hash_is, Linked, Indexed, Entered}
use Rattle.lines.specs.declared.columns.Columns.{Columns}

-- one more of a list set to 0
pub clear_more : (xs : List ℕ) (i : ℕ) → i < length xs → ((h : ℕ) → h < i → get_or xs h 0 ≡ 0) → (h : ℕ) → h < i + 1 → get_or (set xs i 0) h 0 ≡ 0
clear_more xs i b zeros h l =
    below_suc h i (omega arith)
    (λ e. rw e (get_or-set_same xs i 0 0 b))
    (λ k. get_or-set_other xs i h 0 0 (λ e. omega arith) ∙ zeros h k)

module _ (l : Layout) (file : List ℕ) (spans : List Columns) where
  -- ---- the lines
  pub ruled_fewer : (n m : ℕ) → m ≤ n → Ruled l file spans n → Ruled l file spans m
  ruled_fewer n m h r =
      let p : m * l.line ≤ n * l.line = mul-le-mul_right l.line h in
      record { fits = omega (arith, r.fits); few = omega (arith, r.few); inside = r.inside }

  pub line_there : (n j : ℕ) → Ruled l file spans n → j < n → line_place l j + l.line ≤ length file
  line_there n j r h = omega (arith, r.fits, line_ends l n j h)

  pub line_spanned : (n j : ℕ) → Ruled l file spans n → j < n → spans_in (length (line_of l file j)) spans ≡ true
  line_spanned n j r h = rw (line_length l file j (line_there n j r h)) r.inside

  -- ---- the index
  pub linked_fewer : (prev : List ℕ) (n m : ℕ) → m ≤ n → Linked l file spans n prev → Linked l file spans m prev
  linked_fewer prev n m h x = record { links = (λ j i. x.links j (omega arith)) }

  pub index_zero : (index : Index) → ((h : ℕ) → h < 4096 → get_or index.heads h 0 ≡ 0) → Indexed l file spans 0 index
  index_zero index zeros = record {
    last = (λ h i. zeros h i ∙ sym (last_zero (hash_is l file spans h)));
    linked = record { links = (λ j i. absurd (omega arith)) };
  }

  at_small : (j : ℕ) → hash_at l file spans j < 4096
  unfolding hash_at
  at_small j = hash_small spans (line_of l file j)

  module _ (index : Index) (k : ℕ) (x : Indexed l file spans k index) where
    head_more : length index.heads ≡ 4096 → (h : ℕ) → h < 4096 → (b : Bool) → eqb (hash_at l file spans k) h ≡ b
        → get_or (set index.heads (hash_at l file spans k) (k + 1)) h 0 ≡ last_below (k + 1) (hash_is l file spans h)
    unfolding hash_is
    head_more n h i true e =
        ap (λ (j : ℕ). get_or (set index.heads j (k + 1)) h 0) (eqb-true _ _ e)
        ∙ get_or-set_same index.heads h (k + 1) 0 (omega arith)
        ∙ sym (last_hit (hash_is l file spans h) k e)
    head_more n h i false e =
        get_or-set_other index.heads (hash_at l file spans k) h (k + 1) 0 (λ s. eqb-false _ _ e (sym s))
        ∙ x.last h i
        ∙ sym (last_miss (hash_is l file spans h) k e)

    link_more : k < length index.links → (j : ℕ) → j < k + 1
        → get_or (set index.links k (get_or index.heads (hash_at l file spans k) 0)) j 0 ≡ last_below j (hash_is l file spans (hash_at l file spans j))
    link_more n j i =
        below_suc j k (omega arith)
        (λ s. rw s (get_or-set_same index.links k (get_or index.heads (hash_at l file spans k) 0) 0 n ∙ x.last (hash_at l file spans k) (at_small k)))
        (λ m. get_or-set_other index.links k j (get_or index.heads (hash_at l file spans k) 0) 0 (λ s. omega arith) ∙ x.linked.links j m)

    -- one line more
    pub index_more : (new : Index) → k < length index.links → length index.heads ≡ 4096 → Entered l file spans k index new → Indexed l file spans (k + 1) new
    index_more new p h e = record {
      last = (λ g i. ap (λ (xs : List ℕ). get_or xs g 0) e.head ∙ head_more h g i (eqb (hash_at l file spans k) g) refl);
      linked = record { links = (λ j i. ap (λ (xs : List ℕ). get_or xs j 0) e.link ∙ link_more p j i) };
    }
