-- The index of a book's periods by plate and nation. A period has a number: 64 for each agreement before its own, and its place there;
-- so the order of the numbers is the book's, and the number tells the place. Assumes nothing.
use Rattle.std.specs.Prelude.{◌≡◌, Bool, true, ◌&&◌, cond, List, ℕ, ◌+◌, ◌*◌, ◌/◌, ◌%◌, ◌≤◌, ◌<◌, length, ltb, Option, Some, None}
use Rattle.chains.specs.Hash.{hash_two}
use Rattle.chains.specs.Ahead.{Chained, OnWay, link_by}
use Rattle.book.specs.Layout.{agreements, periods_at, period_of, body_place, plate_part, nation_part, width}
use Rattle.book.specs.Form.{book_sound}
use Rattle.cover.specs.Cover.{Asked, period_covers, place_at}
use Rattle.cover.specs.declared.cover.Place.{Place}

-- one link for each of 4,096 hashes, and one for each 40 bytes of the longest book
abbrev pub plate_links : ℕ
plate_links = 30310

-- period j of agreement i, whose body stands at `at`
pub record PeriodAt (book : List ℕ) (i at j : ℕ) : Type 0 where
  pub sound : book_sound width book ≡ true
  pub agreement : i < agreements book
  pub place : at ≡ body_place width book i
  pub period : j < periods_at book at

-- one more than the greatest number
abbrev pub numbers_of : List ℕ → ℕ
numbers_of book = 64 * agreements book

-- where the body stands of the agreement of number x
abbrev pub body_for : List ℕ → ℕ → ℕ
body_for book x = body_place width book (x / 64)

-- x is the number of a period
unfoldable pub numbered : List ℕ → ℕ → Bool
numbered book x = ltb (x / 64) (agreements book) && ltb (x % 64) (periods_at book (body_for book x))

-- that period
unfoldable pub period_for : List ℕ → ℕ → List ℕ
period_for book x = period_of width book (body_for book x) (x % 64)

-- the slot of its link behind the heads: periods do not overlap, so that no two share one
abbrev pub slot_at : ℕ → ℕ → ℕ
slot_at at j = (at + 14 + j * 40) / 40

abbrev pub slot_of : List ℕ → ℕ → ℕ
slot_of book x = slot_at (body_for book x) (x % 64)

-- the hash of its plate and nation
unfoldable pub plate_hash : List ℕ → ℕ → ℕ
plate_hash book x = hash_two (plate_part (period_for book x)) (nation_part (period_for book x))

-- x is the number of a period that covers
unfoldable pub covers_number : List ℕ → Asked → ℕ → Bool
covers_number book q x = numbered book x && period_covers q (period_for book x)

-- the place of number x
unfoldable pub place_for : List ℕ → ℕ → Option Place
place_for book x = cond (ltb x (numbers_of book)) (Some (place_at (x / 64) (x % 64))) None

-- from the head of a hash, and from a period, the link leads to the next period in book order whose plate and nation have that hash; only numbers from k on are in
pub record PlatesFrom (book : List ℕ) (k : ℕ) (links : List ℕ) : Type 0 where
  pub long : plate_links ≤ length links
  pub chained : Chained (numbers_of book) (plate_hash book) (numbered book) k (link_by (slot_of book) links)

-- all are in
abbrev pub PlatesIndexed : List ℕ → List ℕ → Type 0
PlatesIndexed book links = PlatesFrom book 0 links

-- on the way to the first period that covers: the link at `at` was followed to x, and nothing that covers was passed
pub record WayTo (book links : List ℕ) (q : Asked) (h x : ℕ) : Type 0 where
  pub at : ℕ
  pub way : OnWay (numbers_of book) (plate_hash book) (numbered book) (covers_number book q) h at
  pub here : x ≡ link_by (slot_of book) links at
