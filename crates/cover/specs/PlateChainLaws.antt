-- How the index of a book's periods is made, and what following it finds. Assumes nothing.
use Rattle.std.specs.Prelude.{◌≡◌, Bool, ◌&&◌, List, length, get_or, set}
use Rattle.std.proofs.Math.Path.{refl, ap}
use Rattle.std.proofs.Common.{sym, ◌∙◌, length-set}
use Rattle.std.proofs.Math.Bool.{true, false}
use Prim.Native.Nat.{ℕ, zero, suc, ◌+◌, ◌-◌, ◌*◌, ◌/◌, ◌%◌, ◌≤◌, ◌<◌}
use native.Mathlib.Omega.{arith}
use borrow.Author.Tests.{ltb-true, ltb-false}
use Rattle.std.proofs.Math.Dec.{ltb}
use Rattle.lines.specs.Below.{first_below}
use Rattle.lines.specs.BelowLaws.{first_le}
use Rattle.lines.specs.BoolLaws.{and_left, and_right}
use Rattle.lines.specs.Same.{same}
use Rattle.lines.specs.SameLaws.{same_is}
use Rattle.chains.specs.Hash.{hash_two}
use Rattle.chains.specs.HashLaws.{two_small}
use Rattle.chains.specs.Ahead.{has, link_by}
use Rattle.chains.specs.AheadLaws.{has_both, has_free, chained_none, chained_skips, chained_more, slots_fronted, by_head, by_number, way_start, way_has, way_hit, way_none, way_more, way_above}
use Rattle.book.specs.Layout.{agreements, periods_at, body_end, body_place, plate_part, nation_part, width}
use Rattle.book.specs.LayoutLaws.{place_suc}
use Rattle.book.specs.Form.{Whole}
use Rattle.book.specs.FormLaws.{whole_is}
use Rattle.cover.specs.Cover.{Asked, asked, period_covers, leased_to, in_time}
use Rattle.cover.specs.Plates.{plate_links, numbers_of, body_for, numbered, period_for, slot_at, slot_of, plate_hash, covers_number, PeriodAt, PlatesFrom, PlatesIndexed, WayTo}
use Rattle.cover.specs.PlatesLaws.{numbered_is, numbered_not, ends_low, has_number, has_slot}

-- ---- the index made
module _ (book : List ℕ) (w : Whole width book) where
  -- a body ends before each later one begins
  ends_before : (d i : ℕ) → body_end width book (body_place width book i) ≤ body_place width book (i + 1 + d)
  unfolding body_end
  ends_before zero i = let z : i + 1 + 0 ≡ i + 1 = omega arith in rw z (omega (arith, place_suc width book i))
  ends_before (suc d) i =
      let z : i + 1 + suc d ≡ i + 1 + d + 1 = omega arith in
      rw z (omega (arith, ends_before d i, place_suc width book (i + 1 + d)))

  slots_rise : (x y : ℕ) → numbered book x ≡ true → x < y → slot_of book x < slot_of book y
  unfolding body_end
  slots_rise x y e h = go (ltb (x / 64) (y / 64)) refl
    where
      go : (b : Bool) → ltb (x / 64) (y / 64) ≡ b → slot_of book x < slot_of book y
      go true f =
          let l = ltb-true (x / 64) (y / 64) f in
          let z : x / 64 + 1 + (y / 64 - (x / 64 + 1)) ≡ y / 64 = omega arith in
          let b : body_for book x + 14 + periods_at book (body_for book x) * 40 ≤ body_for book y = rw z at (ends_before (y / 64 - (x / 64 + 1)) (x / 64)) in
          omega (arith, (numbered_is book x e).1)
      go false f =
          let l = ltb-false (x / 64) (y / 64) f in
          let z : x / 64 ≡ y / 64 = omega arith in
          let b : body_for book x ≡ body_for book y = ap (body_place width book) z in
          let r : x % 64 < y % 64 = omega arith in
          omega arith

  hash_small : (x : ℕ) → plate_hash book x < 4096
  unfolding plate_hash
  hash_small x = two_small (plate_part (period_for book x)) (nation_part (period_for book x))

  -- between the last period of an agreement and the next agreement there is no period
  pub plates_gap : (links : List ℕ) (i : ℕ) → i < agreements book → PlatesFrom book (64 * (i + 1)) links → PlatesFrom book (64 * i + periods_at book (body_place width book i)) links
  plates_gap links i h x =
      let p = periods_at book (body_place width book i) in
      let m : p ≤ 64 = (w.bodies i h).most in
      let z : 64 * (i + 1) ≡ 64 * i + p + (64 - p) = omega arith in
      record {
        long = x.long;
        chained =
            chained_skips (numbers_of book) (plate_hash book) (numbered book) (64 - p) (64 * i + p) (link_by (slot_of book) links)
            (λ y l k. let v : 64 * i + (y - 64 * i) ≡ y = omega arith in rw v at (numbered_not book i (y - 64 * i) (omega arith) (omega arith)))
            (rw z at x.chained);
      }

-- no period is in
pub plates_none : (book links : List ℕ) → plate_links ≤ length links → ((h : ℕ) → h < 4096 → get_or links h 0 ≡ numbers_of book) → PlatesFrom book (numbers_of book) links
plates_none book links l e = record {
  long = l;
  chained = chained_none (numbers_of book) (plate_hash book) (numbered book) (link_by (slot_of book) links) (λ h m. by_head (slot_of book) links h m ∙ e h m);
}

-- a period put in front of its chain
module _ (book : List ℕ) (i at j : ℕ) (p : PeriodAt book i at j) (links links' : List ℕ) where
  pub plates_more : PlatesFrom book (64 * i + j + 1) links → (h s : ℕ) → h ≡ plate_hash book (64 * i + j) → s ≡ slot_at at j
      → links' ≡ set (set links (4096 + s) (get_or links h 0)) h (64 * i + j) → PlatesFrom book (64 * i + j) links'
  plates_more f h s a b g =
      let x = 64 * i + j in
      let w = whole_is width book p.sound in
      let e = has_number book i at j p in
      let z : links' ≡ set (set links (4096 + slot_of book x) (get_or links (plate_hash book x) 0)) (plate_hash book x) x = rw (← (b ∙ has_slot book i at j p), ← a) g in
      let v = slots_fronted (slot_of book) links links' (numbers_of book) (numbered book) (plate_hash book x) x (hash_small book w x)
      (omega (arith, f.long, ends_low book i at j p, has_slot book i at j p)) (λ y l t. slots_rise book w x y e l) z in
      record {
        long = omega (arith, f.long, ap length g, length-set (set links (4096 + s) (get_or links h 0)) h x, length-set links (4096 + s) (get_or links h 0));
        chained = chained_more (numbers_of book) (plate_hash book) (numbered book) x (link_by (slot_of book) links) (link_by (slot_of book) links') (omega (arith, (numbered_is book x e).0)) e (hash_small book w x) f.chained v;
      }

-- ---- the index followed
-- what covers has the hash
covers_has : (book : List ℕ) (q : Asked) (x : ℕ) → q.named ≡ false → covers_number book q x ≡ true → has (plate_hash book) (numbered book) (hash_two q.plate q.nation) x ≡ true
unfolding covers_number period_covers leased_to plate_hash
covers_has book q x n e =
    let p = period_for book x in
    let l : (same (plate_part p) q.plate && same (nation_part p) q.nation) ≡ true = and_left _ (in_time q.moment p) (rw n at (and_right (numbered book x) _ e)) in
    has_both (numbers_of book) (plate_hash book) (numbered book) (hash_two q.plate q.nation) x (and_left (numbered book x) _ e)
    (ap (λ (s : List ℕ). hash_two s (nation_part p)) (same_is _ _ (and_left _ (same (nation_part p) q.nation) l)) ∙ ap (hash_two q.plate) (same_is _ _ (and_right (same (plate_part p) q.plate) _ l)))

module _ (book links moment plate nation : List ℕ) (c : PlatesIndexed book links) where
  abbrev sought : Asked
  sought = asked false moment plate nation

  abbrev hash : ℕ
  hash = hash_two plate nation

  abbrev link : ℕ → ℕ
  link = link_by (slot_of book) links

  only : (x : ℕ) → covers_number book sought x ≡ true → has (plate_hash book) (numbered book) hash x ≡ true
  only x e = covers_has book sought x refl e

  pub to_start : (h x : ℕ) → h ≡ hash → x ≡ get_or links h 0 → WayTo book links sought hash x
  to_start h x e f = record {
    at = hash;
    way = way_start (numbers_of book) (plate_hash book) (numbered book) link c.chained (covers_number book sought) hash only (two_small plate nation);
    here = f ∙ ap (λ (i : ℕ). get_or links i 0) e ∙ sym (by_head (slot_of book) links hash (two_small plate nation));
  }

  module _ (x : ℕ) (t : WayTo book links sought hash x) where
    pub to_number : x < numbers_of book → numbered book x ≡ true
    to_number l =
        has_free (numbers_of book) (plate_hash book) (numbered book) hash x
        (way_has (numbers_of book) (plate_hash book) (numbered book) link c.chained (covers_number book sought) hash only t.at x t.way t.here l)

    pub to_hit : x < numbers_of book → covers_number book sought x ≡ true → x ≡ first_below (numbers_of book) (covers_number book sought)
    to_hit l e = sym (way_hit (numbers_of book) (plate_hash book) (numbered book) link c.chained (covers_number book sought) hash only t.at x t.way t.here l e)

    pub to_none : numbers_of book ≤ x → x ≡ first_below (numbers_of book) (covers_number book sought)
    to_none l = sym (way_none (numbers_of book) (plate_hash book) (numbered book) link c.chained (covers_number book sought) hash only t.at x t.way t.here l)

    -- so there is none
    pub to_past : numbers_of book ≤ x → numbers_of book ≡ first_below (numbers_of book) (covers_number book sought)
    to_past l = omega (arith, to_none l, first_le (covers_number book sought) (numbers_of book))

    pub to_more : x < numbers_of book → covers_number book sought x ≡ false → (y : ℕ) → y ≡ get_or links (4096 + slot_of book x) 0 → WayTo book links sought hash y × (x < y)
    to_more l e y f =
        let o = way_more (numbers_of book) (plate_hash book) (numbered book) link c.chained (covers_number book sought) hash only t.at x t.way t.here l e in
        let g : y ≡ link (4096 + x) = f ∙ sym (by_number (slot_of book) links x) in
        let a = way_above (numbers_of book) (plate_hash book) (numbered book) link c.chained (covers_number book sought) hash only (4096 + x) y o g in
        (record { at = 4096 + x; way = o; here = g }, omega arith)
