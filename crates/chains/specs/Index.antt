-- Which lines of a file agree with a line, and the index that finds them: two arrays that chain the lines of one hash. Assumes nothing.
use Rattle.std.specs.Prelude.{◌≡◌, Bool, true, not, List, ℕ, ◌+◌, ◌≤◌, ◌<◌, length, get_or, set, eqb}
use Rattle.lines.specs.Below.{all_below, some_below}
use Rattle.lines.specs.Rows.{most_lines, line_place, line_of}
use Rattle.lines.specs.Spans.{span_count, spans_in, agree_across, agree_on}
use Rattle.lines.specs.declared.rows.Layout.{Layout}
use Rattle.chains.specs.Last.{last_below}
use Rattle.chains.specs.Hash.{hash_of}
use Rattle.chains.specs.declared.indexing.Index.{Index}
use Rattle.lines.specs.declared.columns.Columns.{Columns}
use Rattle.chains.specs.declared.indexing.Rows.{Rows}
use Rattle.chains.specs.declared.search.Sought.{Sought}

-- ---- what is asked
-- line k, by the spans, agrees with the line `other` by the spans ts
unfoldable pub agrees_with : Layout → List ℕ → List Columns → List Columns → List ℕ → ℕ → Bool
agrees_with l file spans ts other k = agree_across spans (line_of l file k) ts other

-- one of the first n lines agrees with the line `other`
unfoldable pub member_of : Layout → List ℕ → List Columns → ℕ → List Columns → List ℕ → Bool
member_of l file spans n ts other = some_below n (agrees_with l file spans ts other)

-- line i agrees with line k
unfoldable pub agrees_here : Layout → List ℕ → List Columns → ℕ → ℕ → Bool
agrees_here l file spans k i = agree_on spans (line_of l file i) (line_of l file k)

-- an earlier line agrees with line k
unfoldable pub repeated_at : Layout → List ℕ → List Columns → ℕ → Bool
repeated_at l file spans k = some_below k (agrees_here l file spans k)

-- no earlier line agrees with line k
unfoldable pub fresh_at : Layout → List ℕ → List Columns → ℕ → Bool
fresh_at l file spans k = not (repeated_at l file spans k)

-- no two of the first n lines agree
unfoldable pub all_different : Layout → List ℕ → List Columns → ℕ → Bool
all_different l file spans n = all_below n (fresh_at l file spans)

-- the file holds n lines, not too many, and the spans lie within a line
pub record Ruled (l : Layout) (file : List ℕ) (spans : List Columns) (n : ℕ) : Type 0 where
  pub fits : line_place l n ≤ length file
  pub few : n ≤ most_lines
  pub inside : spans_in l.line spans ≡ true

-- the spans ts lie within the line `other`, and are as many as the file's
pub record Asked (spans ts : List Columns) (other : List ℕ) : Type 0 where
  pub inside : spans_in (length other) ts ≡ true
  pub paired : span_count spans ≡ span_count ts

-- ---- the same, of rows and of what is sought among them
abbrev pub AreRuled : Rows → Type 0
AreRuled rows = Ruled rows.layout rows.file.now rows.spans.now rows.count

abbrev pub IsAskable : Rows → Sought → Type 0
IsAskable rows sought = Asked rows.spans.now sought.spans.now sought.line.now

abbrev pub agrees_at : Rows → Sought → ℕ → Bool
agrees_at rows sought = agrees_with rows.layout rows.file.now rows.spans.now sought.spans.now sought.line.now

-- ---- the index
-- the hash of line j
unfoldable pub hash_at : Layout → List ℕ → List Columns → ℕ → ℕ
hash_at l file spans j = hash_of spans (line_of l file j)

-- line j has the hash h
unfoldable pub hash_is : Layout → List ℕ → List Columns → ℕ → ℕ → Bool
hash_is l file spans h j = eqb (hash_at l file spans j) h

-- links[j] is the nearest line before j with j's hash, for each j below k
pub record Linked (l : Layout) (file : List ℕ) (spans : List Columns) (k : ℕ) (prev : List ℕ) : Type 0 where
  pub links : (j : ℕ) → j < k → get_or prev j 0 ≡ last_below j (hash_is l file spans (hash_at l file spans j))

-- heads[h] is the last of the first k lines with the hash h, and these are linked
pub record Indexed (l : Layout) (file : List ℕ) (spans : List Columns) (k : ℕ) (index : Index) : Type 0 where
  pub last : (h : ℕ) → h < 4096 → get_or index.heads h 0 ≡ last_below k (hash_is l file spans h)
  pub linked : Linked l file spans k index.links

-- line k put in front of its chain
pub record Entered (l : Layout) (file : List ℕ) (spans : List Columns) (k : ℕ) (old new : Index) : Type 0 where
  pub link : new.links ≡ set old.links k (get_or old.heads (hash_at l file spans k) 0)
  pub head : new.heads ≡ set old.heads (hash_at l file spans k) (k + 1)

-- the rows are indexed, or at least linked
abbrev pub AreIndexed : Rows → Index → Type 0
AreIndexed rows index = Indexed rows.layout rows.file.now rows.spans.now rows.count index

abbrev pub AreLinked : Rows → Index → Type 0
AreLinked rows index = Linked rows.layout rows.file.now rows.spans.now rows.count index.links
