-- Chains that rise: for each hash the first free number that has it, and for each free number the next one. Assumes nothing.
use Rattle.std.specs.Prelude.{◌≡◌, Bool, true, false, ◌&&◌, cond, List, ℕ, ◌+◌, ◌-◌, ◌≤◌, ◌<◌, get_or, eqb, leb, ltb}
use Rattle.lines.specs.Below.{first_below, some_below}
use Rattle.chains.specs.Hash.{hashes}

-- j is free and has the hash h
unfoldable pub has : (ℕ → ℕ) → (ℕ → Bool) → ℕ → ℕ → Bool
has hash free h j = free j && eqb (hash j) h

-- it is so, and not before `from`
unfoldable pub ahead : (ℕ → ℕ) → (ℕ → Bool) → ℕ → ℕ → ℕ → Bool
ahead hash free from h j = leb from j && has hash free h j

-- the first such number below n, and n where there is none
unfoldable pub next : ℕ → (ℕ → ℕ) → (ℕ → Bool) → ℕ → ℕ → ℕ
next n hash free from h = first_below n (ahead hash free from h)

-- `link h` for each hash, and `link (hashes + j)` for each number: from the head of a hash, and from a free number, the link leads to the
-- next free number of the same hash, so that the links visit just the free numbers, and in rising order; those before `from` are not in yet
pub record Chained (n : ℕ) (hash : ℕ → ℕ) (free : ℕ → Bool) (from : ℕ) (link : ℕ → ℕ) : Type 0 where
  pub heads : (h : ℕ) → h < hashes → link h ≡ next n hash free from h
  pub nexts : (j : ℕ) → from ≤ j → j < n → free j ≡ true → link (hashes + j) ≡ next n hash free (j + 1) (hash j)

-- k put in front of the chain of h
pub record Fronted (n : ℕ) (free : ℕ → Bool) (h k : ℕ) (link link' : ℕ → ℕ) : Type 0 where
  pub head : link' h ≡ k
  pub after : link' (hashes + k) ≡ link h
  pub heads : (g : ℕ) → g < hashes → (g ≡ h → ⊥) → link' g ≡ link g
  pub nexts : (j : ℕ) → k < j → j < n → free j ≡ true → link' (hashes + j) ≡ link (hashes + j)

-- the link at q leads past j
pub record Passing (q j : ℕ) (link link' : ℕ → ℕ) : Type 0 where
  pub past : link' q ≡ link (hashes + j)
  pub others : (i : ℕ) → (i ≡ q → ⊥) → link' i ≡ link i

-- the links as they stand in an array
unfoldable pub link_at : List ℕ → ℕ → ℕ
link_at links q = get_or links q 0

-- the links as they stand in an array where each number has a slot of its own
unfoldable pub link_by : (ℕ → ℕ) → List ℕ → ℕ → ℕ
link_by slot links q = cond (ltb q hashes) (get_or links q 0) (get_or links (hashes + slot (q - hashes)) 0)

-- the link at q is one of the chain of h: its head, or that of a free number with this hash
pub record Stands (n : ℕ) (hash : ℕ → ℕ) (free : ℕ → Bool) (h q : ℕ) : Type 0 where
  pub within : q < hashes + n
  pub head : q < hashes → q ≡ h
  pub link : hashes ≤ q → has hash free h (q - hashes) ≡ true

-- how many numbers lie up to the link at q: none at a head, j + 1 at the link of j
abbrev pub up_to : ℕ → ℕ
up_to q = q + 1 - hashes

-- on the way to the first wanted number: the chain of h is followed up to the link at q, and nothing wanted was passed
pub record OnWay (n : ℕ) (hash : ℕ → ℕ) (free wanted : ℕ → Bool) (h q : ℕ) : Type 0 where
  pub stands : Stands n hash free h q
  pub passed : some_below (up_to q) wanted ≡ false

-- j is no longer free, and nothing else changed
pub record Without (j : ℕ) (free free' : ℕ → Bool) : Type 0 where
  pub gone : free' j ≡ false
  pub same : (i : ℕ) → (i ≡ j → ⊥) → free' i ≡ free i
