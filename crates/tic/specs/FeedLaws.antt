-- Rows that end in their only line feed: made so, and taken apart. Assumes nothing.
use Rattle.std.specs.Prelude.{◌≡◌, refl, true, false, List, [], ◌∷◌, ◌++◌, get_or, take, eqb}
use Rattle.std.proofs.Common.{sym, ◌∙◌, true≢false, length-append, get_or-take}
use Rattle.std.proofs.Math.Path.{ap}
use Rattle.std.proofs.Math.Bool.{Bool, not}
use Prim.Native.Nat.{ℕ, ◌+◌}
use native.Mathlib.Omega.{arith}
use Rattle.std.proofs.Math.ListN.{length, get_or-append}
use Rattle.std.proofs.lemmas.List.{get_or_at}
use Rattle.std.proofs.Math.Seq.{length-take-le}
use borrow.Author.Tests.{eqb-true, eq-eqb}
use Rattle.lines.specs.Below.{first_below}
use Rattle.lines.specs.BelowLaws.{first_hit, first_before, first_found, some_each}
use Rattle.lines.specs.Class.{is_of, byte_is, all_bytes, place_of}
use Rattle.lines.specs.Rows.{one_feed}
use Rattle.lines.specs.declared.class.Class.TheVariants.{Only}
use Rattle.tic.specs.ByteLaws.{bytes_at, bytes_each}
use Rattle.tic.specs.Sound.{not_feed}

-- a text without a line feed, and one behind it
pub feed_last : (s : List ℕ) → all_bytes not_feed s ≡ true → one_feed (s ++ (10 ∷ [])) ≡ true
unfolding one_feed place_of byte_is is_of not_feed
feed_last s e =
    let row : List ℕ = s ++ (10 ∷ []) in
    let l : length row ≡ length s + 1 = length-append s (10 ∷ []) in
    let p : ℕ → Bool = byte_is (is_of (Only 10)) row in
    let f : first_below (length row) p ≡ length s =
    first_hit p (length row) (length s) (omega arith)
    (some_each p (length s) (λ i h. ap (λ (b : ℕ). eqb b 10) (get_or-append s (10 ∷ []) 0 i h) ∙ not_false' (eqb (get_or s i 0) 10) (bytes_at not_feed s e i h)))
    (eq-eqb (get_or row (length s) 0) 10 (get_or_at s 10 [] 0 (length s) refl)) in
    eq-eqb (first_below (length row) p + 1) (length row) (omega arith)
  where
    not_false' : (b : Bool) → not b ≡ true → b ≡ false
    not_false' true q = absurd (true≢false (sym q))
    not_false' false q = refl

-- a row of n + 1 bytes whose only line feed is its last byte
module _ (row : List ℕ) (n : ℕ) (l : length row ≡ n + 1) (e : one_feed row ≡ true) where
  place : place_of (Only 10) row ≡ n
  unfolding one_feed
  place = let q = eqb-true (place_of (Only 10) row + 1) (length row) e in omega arith

  pub feed_at : get_or row n 0 ≡ 10
  unfolding place_of byte_is is_of
  feed_at =
      let p : ℕ → Bool = byte_is (is_of (Only 10)) row in
      let q : first_below (length row) p ≡ n = place in
      eqb-true (get_or row n 0) 10 (ap p (sym q) ∙ first_found p (length row) (omega arith))

  pub feed_free : all_bytes not_feed (take n row) ≡ true
  unfolding place_of byte_is is_of not_feed
  feed_free =
      let p : ℕ → Bool = byte_is (is_of (Only 10)) row in
      let q : first_below (length row) p ≡ n = place in
      let w : length (take n row) ≡ n = length-take-le n row (omega arith) in
      bytes_each not_feed (take n row) (λ i h. ap (λ (b : ℕ). not (eqb b 10)) (get_or-take n row i 0 (omega arith)) ∙ ap not (first_before p (length row) i (omega arith)))
