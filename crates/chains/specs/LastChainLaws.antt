-- What a walk down a chain finds last: the same as a look at each line from the end. Assumes nothing.
use Rattle.std.specs.Prelude.{◌≡◌, Bool, true, false, Some, None, List, ℕ, ◌+◌, ◌-◌, ◌<◌, get_or}
use Rattle.std.proofs.Math.Path.{refl, ap}
use Rattle.std.proofs.Common.{sym, ◌∙◌, arith}
use Rattle.lines.specs.declared.rows.Layout.{Layout}
use Rattle.chains.specs.Last.{last_below, place_of, last_place}
use Rattle.chains.specs.LastLaws.{place_back, place_none, last_zero, last_hit, last_miss, last_within}
use Rattle.chains.specs.Hash.{hash_of}
use Rattle.chains.specs.Index.{Asked, agrees_with, hash_is}
use Rattle.chains.specs.Chain.{Walk}
use Rattle.chains.specs.ChainLaws.{only_hash, chain_start, chain_link, chain_down}
use Rattle.chains.specs.LastChain.{OnLastChain}
use Rattle.lines.specs.declared.columns.Columns.{Columns}

module _ (l : Layout) (file : List ℕ) (spans ts : List Columns) (other : List ℕ) where
  abbrev sought : ℕ → Bool
  sought = hash_is l file spans (hash_of ts other)

  abbrev agrees : ℕ → Bool
  agrees = agrees_with l file spans ts other

  -- where a walk starts at the last line below k with the hash, it finds the last below k that agrees
  pub last_from : (k start : ℕ) → Asked spans ts other → start ≡ last_below k sought → last_below start agrees ≡ last_below k agrees
  last_from k start q e = ap (λ (i : ℕ). last_below i agrees) e ∙ last_within sought agrees (only_hash l file spans ts other q.paired) k

  module _ (prev : List ℕ) (start : ℕ) (w : Walk l file spans start prev ts other) where
    pub last_start : OnLastChain l file spans start ts other start
    last_start = record { on = chain_start l file spans ts other prev start w; last = refl }

    module _ (link : ℕ) (o : OnLastChain l file spans start ts other link) (h : 0 < link) where
      pub last_down : agrees (link - 1) ≡ false → OnLastChain l file spans start ts other (get_or prev (link - 1) 0)
      last_down f =
          let s : link - 1 + 1 ≡ link = omega arith in
          record {
            on = chain_down l file spans ts other prev start w link o.on h f;
            last =
                ap (λ (k : ℕ). last_below k agrees) (chain_link l file spans ts other prev start w link o.on h)
                ∙ last_within sought agrees (only_hash l file spans ts other w.asked.paired) (link - 1)
                ∙ sym (last_miss agrees (link - 1) f)
                ∙ ap (λ (k : ℕ). last_below k agrees) s
                ∙ o.last;
          }

      pub last_found : agrees (link - 1) ≡ true → last_below start agrees ≡ link
      last_found t = let s : link - 1 + 1 ≡ link = omega arith in sym o.last ∙ (rw s at (last_hit agrees (link - 1) t))

      -- counted from 0
      pub last_seen : agrees (link - 1) ≡ true → last_place start agrees ≡ Some (link - 1)
      last_seen t = place_back (last_below start agrees) (link - 1) (let s : link - 1 + 1 ≡ link = omega arith in last_found t ∙ sym s)

    pub last_missing : (link : ℕ) → OnLastChain l file spans start ts other link → link ≡ 0 → last_below start agrees ≡ 0
    last_missing link o e = sym o.last ∙ ap (λ (k : ℕ). last_below k agrees) e ∙ last_zero agrees

    pub last_unseen : (link : ℕ) → OnLastChain l file spans start ts other link → link ≡ 0 → last_place start agrees ≡ None
    last_unseen link o e = ap place_of (last_missing link o e) ∙ place_none
