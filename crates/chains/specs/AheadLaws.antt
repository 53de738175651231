-- How rising chains are made and followed, and how they stand in an array. Assumes nothing.
use Rattle.std.specs.Prelude.{◌≡◌, refl, Option, Some, None, MatchOption, Bool, true, false, List, ℕ, zero, suc, ◌+◌, ◌-◌, ◌≤◌, ◌<◌, length, get_or, eqb, ltb}
use Rattle.std.proofs.Common.{sym, ap, ◌∙◌}
use Rattle.std.proofs.lemmas.Bool.{false≢true}
use native.Mathlib.Omega.{arith}
use borrow.Author.Tests.{eqb-true, eqb-false, eq-eqb, ltb-true, ltb-false, lt-ltb, le-ltb}
use Rattle.std.proofs.Math.Seq.{get_or-set_same, get_or-set_other}
use Rattle.std.proofs.Math.ListN.{set, length-set}
use Rattle.lines.specs.Below.{first_below}
use Rattle.lines.specs.BelowLaws.{below_suc, some_zero, some_each, some_none, first_none, first_hit}
use Rattle.lines.specs.BoolLaws.{and_true, and_left, and_right, and_false_left}
use Rattle.chains.specs.Hash.{hashes}
use Rattle.chains.specs.Ahead.{has, next, Chained, Fronted, Passing, link_at, link_by, Stands, up_to, OnWay}
use Rattle.chains.specs.NextLaws.{next_end, next_here, next_past, next_le, next_is, next_before}

-- what is false where something else is
if_not : (a b : Bool) → (a ≡ true → b ≡ true) → b ≡ false → a ≡ false
if_not true b f e = absurd (false≢true (sym e ∙ f refl))
if_not false b f e = refl

module _ (n : ℕ) (hash : ℕ → ℕ) (free : ℕ → Bool) where
  -- what has a hash is free, and has it
  pub has_free : (h j : ℕ) → has hash free h j ≡ true → free j ≡ true
  unfolding has
  has_free h j e = and_left (free j) (eqb (hash j) h) e

  pub has_hash : (h j : ℕ) → has hash free h j ≡ true → hash j ≡ h
  unfolding has
  has_hash h j e = eqb-true (hash j) h (and_right (free j) (eqb (hash j) h) e)

  pub has_both : (h j : ℕ) → free j ≡ true → hash j ≡ h → has hash free h j ≡ true
  unfolding has
  has_both h j f e = and_true (free j) (eqb (hash j) h) f (eq-eqb (hash j) h e)

  pub has_taken : (h j : ℕ) → free j ≡ false → has hash free h j ≡ false
  unfolding has
  has_taken h j f = and_false_left (free j) (eqb (hash j) h) f

  -- ---- made from the last number to the first
  pub chained_none : (link : ℕ → ℕ) → ((h : ℕ) → h < hashes → link h ≡ n) → Chained n hash free n link
  chained_none link e = record {
    heads = (λ h m. e h m ∙ sym (next_end n hash free h));
    nexts = (λ j i m f. absurd (omega arith));
  }

  pub chained_skip : (k : ℕ) (link : ℕ → ℕ) → free k ≡ false → Chained n hash free (k + 1) link → Chained n hash free k link
  chained_skip k link f x = record {
    heads = (λ h m. x.heads h m ∙ sym (next_past n hash free k h (has_taken h k f)));
    nexts = (λ j i m g. go j i m g (eqb j k) refl);
  }
    where
      go : (j : ℕ) → k ≤ j → j < n → free j ≡ true → (b : Bool) → eqb j k ≡ b → link (hashes + j) ≡ next n hash free (j + 1) (hash j)
      go j i m g true e = absurd (false≢true (sym f ∙ ap free (sym (eqb-true j k e)) ∙ g))
      go j i m g false e = x.nexts j (let ne = eqb-false j k e in omega arith) m g

  -- numbers that are not free, one after the other
  pub chained_skips : (d k : ℕ) (link : ℕ → ℕ) → ((x : ℕ) → k ≤ x → x < k + d → free x ≡ false) → Chained n hash free (k + d) link → Chained n hash free k link
  chained_skips zero k link f x = let z : k + 0 ≡ k = omega arith in rw z at x
  chained_skips (suc d) k link f x =
      let z : k + suc d ≡ k + d + 1 = omega arith in
      chained_skips d k link (λ i l m. f i l (omega arith)) (chained_skip (k + d) link (f (k + d) (omega arith) (omega arith)) (rw z at x))

  module _ (k : ℕ) (link link' : ℕ → ℕ) (l : k < n) (f : free k ≡ true) (s : hash k < hashes) (x : Chained n hash free (k + 1) link) (w : Fronted n free (hash k) k link link') where
    head_in : (h : ℕ) → h < hashes → (b : Bool) → eqb h (hash k) ≡ b → link' h ≡ next n hash free k h
    head_in h m true e =
        let i = eqb-true h (hash k) e in
        ap link' i ∙ w.head ∙ sym (next_here n hash free k h l (has_both h k f (sym i)))
    head_in h m false e =
        let ne = eqb-false h (hash k) e in
        w.heads h m ne
        ∙ x.heads h m
        ∙ sym (next_past n hash free k h (if_not (has hash free h k) (eqb h (hash k)) (λ t. eq-eqb h (hash k) (sym (has_hash h k t))) e))

    next_in : (j : ℕ) → k ≤ j → j < n → free j ≡ true → (b : Bool) → eqb j k ≡ b → link' (hashes + j) ≡ next n hash free (j + 1) (hash j)
    next_in j i m g true e =
        let z = eqb-true j k e in
        ap (λ (t : ℕ). link' (hashes + t)) z ∙ w.after ∙ x.heads (hash k) s ∙ ap (λ (t : ℕ). next n hash free (t + 1) (hash t)) (sym z)
    next_in j i m g false e =
        let ne = eqb-false j k e in
        w.nexts j (omega arith) m g ∙ x.nexts j (omega arith) m g

    -- a free number put in front of its chain
    pub chained_more : Chained n hash free k link'
    chained_more = record {
      heads = (λ h m. head_in h m (eqb h (hash k)) refl);
      nexts = (λ j i m g. next_in j i m g (eqb j k) refl);
    }

  -- ---- followed
  pub stands_head : (h : ℕ) → h < hashes → Stands n hash free h h
  stands_head h l = record { within = omega arith; head = (λ m. refl); link = (λ m. absurd (omega arith)) }

  pub stands_link : (h j : ℕ) → j < n → has hash free h j ≡ true → Stands n hash free h (hashes + j)
  stands_link h j l e =
      let z : hashes + j - hashes ≡ j = omega arith in
      record { within = omega arith; head = (λ m. absurd (omega arith)); link = (λ m. rw z e) }

  module _ (link : ℕ → ℕ) (x : Chained n hash free 0 link) where
    -- each link of a chain leads to the next number after it
    pub leads : (h q : ℕ) → Stands n hash free h q → link q ≡ next n hash free (up_to q) h
    leads h q s = go (ltb q hashes) refl
      where
        go : (b : Bool) → ltb q hashes ≡ b → link q ≡ next n hash free (up_to q) h
        go true e =
            let l = ltb-true q hashes e in
            let z : up_to q ≡ 0 = omega arith in
            x.heads q l ∙ ap (λ (g : ℕ). next n hash free 0 g) (s.head l) ∙ ap (λ (f : ℕ). next n hash free f h) (sym z)
        go false e =
            let l = ltb-false q hashes e in
            let i = s.link l in
            let z : hashes + (q - hashes) ≡ q = omega arith in
            let y : q - hashes + 1 ≡ up_to q = omega arith in
            ap link (sym z)
            ∙ x.nexts (q - hashes) (omega arith) (omega (arith, s.within)) (has_free h (q - hashes) i)
            ∙ ap (λ (g : ℕ). next n hash free (q - hashes + 1) g) (has_hash h (q - hashes) i)
            ∙ ap (λ (f : ℕ). next n hash free f h) y

    module _ (wanted : ℕ → Bool) (h : ℕ) (only : (j : ℕ) → wanted j ≡ true → has hash free h j ≡ true) where
      pub way_start : h < hashes → OnWay n hash free wanted h h
      way_start l =
          let z : up_to h ≡ 0 = omega arith in
          record { stands = stands_head h l; passed = rw z (some_zero wanted) }

      module _ (q j : ℕ) (o : OnWay n hash free wanted h q) (e : j ≡ link q) where
        at_next : j ≡ next n hash free (up_to q) h
        at_next = e ∙ leads h q o.stands

        -- nothing wanted stands before the number that the link leads to
        clear : (i : ℕ) → i < j → wanted i ≡ false
        clear i l = go (ltb i (up_to q)) refl
          where
            go : (b : Bool) → ltb i (up_to q) ≡ b → wanted i ≡ false
            go true f = some_none wanted (up_to q) o.passed i (ltb-true i (up_to q) f)
            go false f = if_not (wanted i) (has hash free h i) (only i) (next_before n hash free (up_to q) h i (ltb-false i (up_to q) f) (omega (arith, at_next)))

        way_le : j ≤ n
        way_le = omega (arith, at_next, next_le n hash free (up_to q) h)

        pub way_rises : j < n → q < hashes + j
        way_rises l = let w = (next_is n hash free (up_to q) h (omega (arith, at_next))).0 in omega (arith, at_next)

        pub way_above : up_to q ≤ j
        way_above = go (ltb j n) refl
          where
            go : (b : Bool) → ltb j n ≡ b → up_to q ≤ j
            go true f = let l = ltb-true j n f in omega (arith, way_rises l)
            go false f = let l = ltb-false j n f in omega (arith, o.stands.within)

        pub way_none : n ≤ j → first_below n wanted ≡ j
        way_none l =
            let z : n ≡ j = omega (arith, way_le) in
            first_none wanted n (some_each wanted n (λ i m. clear i (omega arith))) ∙ z

        pub way_hit : j < n → wanted j ≡ true → first_below n wanted ≡ j
        way_hit l t = first_hit wanted n j l (some_each wanted j clear) t

        pub way_has : j < n → has hash free h j ≡ true
        way_has l = ap (has hash free h) at_next ∙ (next_is n hash free (up_to q) h (omega (arith, at_next))).1

        pub way_more : j < n → wanted j ≡ false → OnWay n hash free wanted h (hashes + j)
        way_more l t =
            let y : up_to (hashes + j) ≡ j + 1 = omega arith in
            record {
              stands = stands_link h j l (way_has l);
              passed = rw y (some_each wanted (j + 1) (λ i m. below_suc i j (omega arith) (λ s. ap wanted s ∙ t) (λ w. clear i w)));
            }

-- ---- in an array with a place for each number
-- a link read: the number that it names, if that is below n, is one
pub next_one : (n x : ℕ) (r s : Option ℕ) → MatchOption r (n ≤ x) (λ j. (j ≡ x) × (j < n)) → MatchOption s (n ≤ x) (λ j. (j ≡ x) × (j < n)) → r ≡ s
next_one n x (Some i) (Some j) g h = ap (λ (k : ℕ). Some k) (g.0 ∙ sym h.0)
next_one n x (Some i) None g h = absurd (omega arith)
next_one n x None (Some j) g h = absurd (omega arith)
next_one n x None None g h = refl

-- one more of the heads set to v
pub clear_more : (links : List ℕ) (v i : ℕ) → i < length links → ((h : ℕ) → h < i → get_or links h 0 ≡ v) → (h : ℕ) → h < i + 1 → get_or (set links i v) h 0 ≡ v
clear_more links v i b filled h l =
    below_suc h i (omega arith)
    (λ e. rw e (get_or-set_same links i v 0 b))
    (λ k. get_or-set_other links i h v 0 (λ e. omega arith) ∙ filled h k)

module _ (links links' : List ℕ) where
  pub array_fronted : (n : ℕ) (free : ℕ → Bool) (h k : ℕ) → h < hashes → hashes + k < length links
      → links' ≡ set (set links (hashes + k) (get_or links h 0)) h k → Fronted n free h k (link_at links) (link_at links')
  unfolding link_at
  array_fronted n free h k s l e =
      let put = set links (hashes + k) (get_or links h 0) in
      let long = length-set links (hashes + k) (get_or links h 0) in
      rw e
      (record {
        head = get_or-set_same put h k 0 (omega arith);
        after = get_or-set_other put h (hashes + k) k 0 (λ z. omega arith) ∙ get_or-set_same links (hashes + k) (get_or links h 0) 0 l;
        heads = (λ g m ne. get_or-set_other put h g k 0 ne ∙ get_or-set_other links (hashes + k) g (get_or links h 0) 0 (λ z. omega arith));
        nexts = (λ j m i t. get_or-set_other put h (hashes + j) k 0 (λ z. omega arith) ∙ get_or-set_other links (hashes + k) (hashes + j) (get_or links h 0) 0 (λ z. omega arith));
      })

  pub array_passing : (q j : ℕ) → q < length links → links' ≡ set links q (get_or links (hashes + j) 0) → Passing q j (link_at links) (link_at links')
  unfolding link_at
  array_passing q j l e =
      rw e
      (record {
        past = get_or-set_same links q (get_or links (hashes + j) 0) 0 l;
        others = (λ i ne. get_or-set_other links q i (get_or links (hashes + j) 0) 0 ne);
      })

-- ---- in an array with slots
module _ (slot : ℕ → ℕ) (links : List ℕ) where
  pub by_head : (q : ℕ) → q < hashes → link_by slot links q ≡ get_or links q 0
  unfolding link_by
  by_head q l = rw (lt-ltb q hashes l)

  pub by_number : (j : ℕ) → link_by slot links (hashes + j) ≡ get_or links (hashes + slot j) 0
  unfolding link_by
  by_number j = let z : hashes + j - hashes ≡ j = omega arith in rw (le-ltb (hashes + j) hashes (omega arith), z)

module _ (slot : ℕ → ℕ) (links links' : List ℕ) (n : ℕ) (free : ℕ → Bool) (h k : ℕ) where
  pub slots_fronted : h < hashes → hashes + slot k < length links → ((j : ℕ) → k < j → free j ≡ true → slot k < slot j)
      → links' ≡ set (set links (hashes + slot k) (get_or links h 0)) h k → Fronted n free h k (link_by slot links) (link_by slot links')
  slots_fronted s l rise e =
      let put = set links (hashes + slot k) (get_or links h 0) in
      let long = length-set links (hashes + slot k) (get_or links h 0) in
      rw e
      (record {
        head = by_head slot (set put h k) h s ∙ get_or-set_same put h k 0 (omega arith);
        after = by_number slot (set put h k) k ∙ get_or-set_other put h (hashes + slot k) k 0 (λ z. omega arith) ∙ get_or-set_same links (hashes + slot k) (get_or links h 0) 0 l ∙ sym (by_head slot links h s);
        heads = (λ g m ne. by_head slot (set put h k) g m ∙ get_or-set_other put h g k 0 ne ∙ get_or-set_other links (hashes + slot k) g (get_or links h 0) 0 (λ z. omega arith) ∙ sym (by_head slot links g m));
        nexts =
            (λ j m i t.
            let r = rise j m t in
            by_number slot (set put h k) j ∙ get_or-set_other put h (hashes + slot j) k 0 (λ z. omega arith) ∙ get_or-set_other links (hashes + slot k) (hashes + slot j) (get_or links h 0) 0 (λ z. omega arith) ∙ sym (by_number slot links j));
      })
