-- Numbers of periods: which there are, and where their periods stand. Assumes nothing.
use Rattle.std.specs.Prelude.{◌≡◌, List, ℕ, ◌+◌, ◌*◌, ◌/◌, ◌%◌, ◌≤◌, ◌<◌, length}
use Rattle.std.proofs.Math.Path.{ap}
use Rattle.std.proofs.Common.{◌∙◌}
use Rattle.std.proofs.Math.Bool.{true, false}
use native.Mathlib.Omega.{arith}
use borrow.Author.Tests.{ltb-true, lt-ltb, le-ltb}
use Rattle.std.proofs.Math.Dec.{ltb}
use Rattle.lines.specs.BoolLaws.{and_true, and_left, and_right, and_false_right}
use Rattle.chains.specs.Hash.{hash_two}
use Rattle.book.specs.Layout.{agreements, periods_at, period_of, period_end, body_place, plate_part, nation_part, width}
use Rattle.book.specs.Form.{most_bytes, book_sound, Body}
use Rattle.book.specs.FormLaws.{whole_is}
use Rattle.cover.specs.Cover.{Asked, period_covers}
use Rattle.cover.specs.CoverLaws.{body_at}
use Rattle.cover.specs.RisingLaws.{period_inside}
use Rattle.cover.specs.Plates.{body_for, numbered, period_for, slot_at, slot_of, plate_hash, covers_number, PeriodAt}

pub split : (i j : ℕ) → j < 64 → ((64 * i + j) / 64 ≡ i) × ((64 * i + j) % 64 ≡ j)
split i j h = (omega arith, omega arith)

-- ---- a period, and its number
module _ (book : List ℕ) (i at j : ℕ) (p : PeriodAt book i at j) where
  body : Body width book at
  body = body_at width book i at p.sound p.agreement p.place

  most : j < 64
  most = omega (arith, p.period, body.most)

  pub number_small : 64 * i + j < 64000
  number_small = omega (arith, most, p.agreement, (whole_is width book p.sound).headed.few)

  pub stands_in : period_end width at j ≤ length book
  stands_in = period_inside width book at body j p.period

  pub ends_low : period_end width at j ≤ most_bytes
  ends_low = omega (arith, stands_in, (whole_is width book p.sound).headed.short)

  pub has_number : numbered book (64 * i + j) ≡ true
  unfolding numbered
  has_number = rw ((split i j most).0, (split i j most).1) (and_true _ _ (lt-ltb _ _ p.agreement) (lt-ltb _ _ (rw p.place at p.period)))

  pub has_slot : slot_at at j ≡ slot_of book (64 * i + j)
  has_slot = rw ((split i j most).0, (split i j most).1, p.place)

  pub has_hash : (period plate nation : List ℕ) → period ≡ period_of width book at j → plate ≡ plate_part period → nation ≡ nation_part period → hash_two plate nation ≡ plate_hash book (64 * i + j)
  unfolding plate_hash period_for
  has_hash period plate nation f g h =
      let e : period ≡ period_of width book (body_place width book i) j = f ∙ ap (λ (t : ℕ). period_of width book t j) p.place in
      rw ((split i j most).0, (split i j most).1, ← e, g, h)

module _ (book : List ℕ) where
  pub numbered_is : (x : ℕ) → numbered book x ≡ true → (x / 64 < agreements book) × (x % 64 < periods_at book (body_for book x))
  unfolding numbered
  numbered_is x e =
      let a = ltb (x / 64) (agreements book) in
      let b = ltb (x % 64) (periods_at book (body_for book x)) in
      (ltb-true _ _ (and_left a b e), ltb-true _ _ (and_right a b e))

  -- the period that it is the number of
  pub number_at : (x at : ℕ) → book_sound width book ≡ true → numbered book x ≡ true → at ≡ body_for book x → PeriodAt book (x / 64) at (x % 64)
  number_at x at s e z = record { sound = s; agreement = (numbered_is x e).0; place = z; period = rw z (numbered_is x e).1 }

  pub numbered_not : (i j : ℕ) → periods_at book (body_place width book i) ≤ j → j < 64 → numbered book (64 * i + j) ≡ false
  unfolding numbered
  numbered_not i j k l = rw ((split i j l).0, (split i j l).1) (and_false_right (ltb i (agreements book)) _ (le-ltb _ _ k))

  -- for a number of a period, to cover is what its period does
  pub number_covers : (q : Asked) (x : ℕ) → numbered book x ≡ true → covers_number book q x ≡ period_covers q (period_for book x)
  unfolding covers_number
  number_covers q x e = rw e
