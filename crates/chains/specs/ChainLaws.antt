-- What a walk down a chain finds: the same as a look at each line. Assumes nothing.
use Rattle.std.specs.Prelude.{◌≡◌, Bool, true, false, List, ℕ, ◌+◌, ◌-◌, ◌≤◌, ◌<◌, get_or}
use Rattle.std.proofs.Math.Path.{refl, ap}
use Rattle.std.proofs.Common.{sym, ◌∙◌, arith}
use borrow.Author.Tests.{eqb-true, eq-eqb}
use Rattle.lines.specs.Below.{some_below}
use Rattle.lines.specs.BelowLaws.{some_zero, some_hit}
use Rattle.lines.specs.Rows.{line_of}
use Rattle.lines.specs.Spans.{span_count, agree_on}
use Rattle.lines.specs.declared.rows.Layout.{Layout}
use Rattle.chains.specs.Last.{last_below}
use Rattle.chains.specs.LastLaws.{last_le, last_is, last_skips, last_steps}
use Rattle.chains.specs.Hash.{hash_of, Hashed}
use Rattle.chains.specs.HashLaws.{agree_hash}
use Rattle.chains.specs.declared.indexing.Index.{Index}
use Rattle.chains.specs.Index.{Ruled, Asked, agrees_with, agrees_here, repeated_at, hash_at, hash_is, Linked, Indexed}
use Rattle.chains.specs.IndexLaws.{ruled_fewer, linked_fewer, line_spanned}
use Rattle.chains.specs.Chain.{Walk, OnChain}
use Rattle.lines.specs.declared.columns.Columns.{Columns}

module _ (l : Layout) (file : List ℕ) (spans ts : List Columns) (other : List ℕ) where
  -- line j has the hash that is looked for
  abbrev sought : ℕ → Bool
  sought = hash_is l file spans (hash_of ts other)

  -- line j agrees with the line that is looked for
  abbrev agrees : ℕ → Bool
  agrees = agrees_with l file spans ts other

  -- only a line with the hash agrees
  pub only_hash : span_count spans ≡ span_count ts → (j : ℕ) → agrees j ≡ true → sought j ≡ true
  unfolding agrees_with hash_is hash_at
  only_hash paired j e = eq-eqb _ _ (agree_hash spans (line_of l file j) ts other e paired)

  -- ---- where a walk starts: at the last line below k with the hash
  pub walk_from : (prev : List ℕ) (n k start : ℕ) → k ≤ n → Ruled l file spans n → Linked l file spans n prev → Asked spans ts other
      → start ≡ last_below k sought → Walk l file spans start prev ts other
  walk_from prev n k start h r x q e =
      let b : start ≤ n = omega (arith, last_le sought k) in
      record {
        ruled = ruled_fewer l file spans n start b r;
        linked = linked_fewer l file spans prev n start b x;
        hashed = (λ j g. last_is sought k j (sym e ∙ g));
        asked = q;
      }

  -- and what it finds
  pub found_from : (k start : ℕ) → Asked spans ts other → start ≡ last_below k sought → some_below start agrees ≡ some_below k agrees
  found_from k start q e = ap (λ (i : ℕ). some_below i agrees) e ∙ last_skips sought agrees (only_hash q.paired) k

  -- the head of a hash is the last line with it
  pub head_start : (index : Index) (n h start : ℕ) → Indexed l file spans n index → Hashed ts other h → start ≡ get_or index.heads h 0
      → start ≡ last_below n sought
  head_start index n h start x g e = e ∙ x.last h g.small ∙ ap (λ (i : ℕ). last_below n (hash_is l file spans i)) g.value

  -- ---- on the way
  module _ (prev : List ℕ) (start : ℕ) (w : Walk l file spans start prev ts other) where
    pub chain_start : OnChain l file spans start ts other start
    chain_start = record { same = refl; low = omega arith; hashed = w.hashed }

    module _ (link : ℕ) (o : OnChain l file spans start ts other link) (h : 0 < link) where
      -- a link is stated by the hash of its own line, which is the one that is looked for
      pub chain_link : get_or prev (link - 1) 0 ≡ last_below (link - 1) sought
      unfolding hash_is
      chain_link =
          w.linked.links (link - 1) (omega (arith, o.low))
          ∙ ap (λ (i : ℕ). last_below (link - 1) (hash_is l file spans i)) (eqb-true _ _ (o.hashed (link - 1) (omega arith)))

      pub chain_falls : get_or prev (link - 1) 0 < link
      chain_falls = omega (arith, chain_link, last_le sought (link - 1))

      pub chain_down : agrees (link - 1) ≡ false → OnChain l file spans start ts other (get_or prev (link - 1) 0)
      chain_down f =
          let s : link - 1 + 1 ≡ link = omega arith in
          record {
            same =
                ap (λ (k : ℕ). some_below k agrees) chain_link
                ∙ last_steps sought agrees (only_hash w.asked.paired) (link - 1) f
                ∙ ap (λ (k : ℕ). some_below k agrees) s
                ∙ o.same;
            low = omega (arith, chain_falls, o.low);
            hashed = (λ j g. last_is sought (link - 1) j (sym chain_link ∙ g));
          }

      pub chain_hit : agrees (link - 1) ≡ true → some_below start agrees ≡ true
      chain_hit t = some_hit agrees start (link - 1) (omega (arith, o.low)) t

    pub chain_end : (link : ℕ) → OnChain l file spans start ts other link → link ≡ 0 → some_below start agrees ≡ false
    chain_end link o e = sym o.same ∙ ap (λ (k : ℕ). some_below k agrees) e ∙ some_zero agrees

-- ---- a line of the file itself
module _ (l : Layout) (file : List ℕ) (spans : List Columns) (k : ℕ) where
  -- agreement with line k is that of two lines of one kind
  pub own_repeated : some_below k (agrees_with l file spans spans (line_of l file k)) ≡ repeated_at l file spans k
  unfolding repeated_at agrees_with agrees_here agree_on
  own_repeated = refl

  module _ (n : ℕ) (h : k < n) where
    pub own_asked : Ruled l file spans n → Asked spans spans (line_of l file k)
    own_asked r = record { inside = line_spanned l file spans n k r h; paired = refl }

    -- the link of line k is the last before it with its hash
    pub link_start : (prev : List ℕ) (start : ℕ) → Linked l file spans n prev → start ≡ get_or prev k 0
        → start ≡ last_below k (hash_is l file spans (hash_of spans (line_of l file k)))
    unfolding hash_at
    link_start prev start x e = e ∙ x.links k h
