-- The periods of a sound body: each starts at or after the end before it, so that a moment lies in the time of none but the last that has started by then.
-- Assumes nothing.
use Rattle.std.specs.Prelude.{◌≡◌, Bool, true, not, List, ◌∷◌, ℕ, ◌+◌, ◌-◌, ◌≤◌, ◌<◌, length, Ok, Err}
use Rattle.std.proofs.Math.Path.{refl, sym}
use Rattle.std.proofs.Common.{◌∙◌, true≢false}
use Rattle.std.proofs.Math.Bool.{false}
use native.Mathlib.Omega.{arith}
use Rattle.std.proofs.Math.Dec.{eqb}
use borrow.Author.Tests.{not-true, not-false, ne_eqb}
use Rattle.lines.specs.Below.{first_below}
use Rattle.lines.specs.BelowLaws.{all_at, first_before, first_le}
use Rattle.lines.specs.BoolLaws.{and_left, and_right, and_false_right}
use Rattle.lines.specs.FirstOf.{Row, ◌⇒◌, first_of}
use Rattle.lines.specs.Same.{before}
use Rattle.book.specs.Layout.{periods_at, period_of, start_part, end_part}
use Rattle.book.specs.LayoutLaws.{cols_length, period_length}
use Rattle.moment.specs.Moment.{Checked, is_real}
use Rattle.book.specs.Form.{period_form, in_form, wrong_moment, follows_at, period_sound_at, periods_sound, Body}
use Rattle.cover.specs.OrderLaws.{either_side}
use Rattle.cover.specs.UntilLaws.{unless, before_until}
use Rattle.cover.specs.Cover.{asked, in_time, period_covers, covers_at}
use Rattle.cover.specs.Rising.{start_of, after, Rising, Sought, OnlyBefore}
use Rattle.cover.specs.RisingLaws.{stays_after, after_first, period_inside}

-- where the answer passes a test, no row applies whose own answer does not
passed : {A : Type 0} (test : A → Bool) (b : Bool) (a : A) (rows : List (Row A)) (other : A) → test (first_of ((b ⇒ a) ∷ rows) other) ≡ true → (b ≡ true → test a ≡ false) → (b ≡ false) × (test (first_of rows other) ≡ true)
unfolding first_of
passed test true a rows other e n = absurd (true≢false (sym e ∙ n refl))
passed test false a rows other e n = (refl, e)

-- a moment that is not real is no form
wrong : (m : Checked) → not (is_real m) ≡ true → in_form (wrong_moment m) ≡ false
wrong (Ok t) e = sym e
wrong (Err fault) e = refl

module _ (w : ℕ) (wide : 40 ≤ w) (book : List ℕ) (at : ℕ) (b : Body w book at) where
  abbrev end_of : ℕ → List ℕ
  end_of j = end_part (period_of w book at j)

  long : (j : ℕ) → j < periods_at book at → length (period_of w book at j) ≡ w
  long j h = period_length w book at j (period_inside w book at b j h)

  start_long : (j : ℕ) → j < periods_at book at → length (start_of w book at j) ≡ 14
  unfolding start_of
  start_long j h = cols_length 13 26 (period_of w book at j) (omega arith) (omega (arith, long j h))

  end_long : (j : ℕ) → j < periods_at book at → length (end_of j) ≡ 14
  end_long j h = cols_length 27 40 (period_of w book at j) (omega arith) (omega (arith, long j h))

  sound : (j : ℕ) → j < periods_at book at → period_sound_at w book at (periods_at book at) j ≡ true
  unfolding periods_sound
  sound j h = all_at (period_sound_at w book at (periods_at book at)) (periods_at book at) b.periods j h

  -- a period starts before it ends
  starts_first : (j : ℕ) → j < periods_at book at → before (start_of w book at j) (end_of j) ≡ true
  unfolding period_sound_at period_form start_of
  starts_first j h =
      let form = and_left (in_form (period_form (eqb (j + 1) (periods_at book at)) (period_of w book at j))) (follows_at w book at j) (sound j h) in
      let plated = passed in_form _ _ _ _ form (λ e. refl) in
      let started = passed in_form _ _ _ _ plated.1 (wrong _) in
      let ended = passed in_form _ _ _ _ started.1 (wrong _) in
      not-false (before (start_part (period_of w book at j)) (end_of j)) (passed in_form _ _ _ _ ended.1 (λ e. refl)).0

  -- the next does not start before that
  follows : (j : ℕ) → j + 1 < periods_at book at → before (start_of w book at (j + 1)) (end_of j) ≡ false
  unfolding period_sound_at follows_at start_of
  follows j h =
      let t = and_right (in_form (period_form (eqb (j + 1 + 1) (periods_at book at)) (period_of w book at (j + 1)))) (follows_at w book at (j + 1)) (sound (j + 1) h) in
      let k : j + 1 - 1 ≡ j = omega arith in
      let z : eqb (j + 1) 0 ≡ false = ne_eqb (j + 1) 0 (omega arith) in
      not-true (before (start_part (period_of w book at (j + 1))) (end_of j)) (rw k at (rw z at t))

  starts_rise : Rising (start_of w book at) (periods_at book at) 14
  starts_rise = record {
    even = start_long;
    next = (λ j h.
        let l = end_long j (omega arith) in
        before_until (start_of w book at j) (end_of j) (start_of w book at (j + 1)) (start_long j (omega arith) ∙ sym l) (l ∙ sym (start_long (j + 1) h)) (starts_first j (omega arith)) (follows j h));
  }

  module _ (moment : List ℕ) (e : length moment ≡ 14) where
    pub starts_sought : Sought w book at (periods_at book at) moment
    starts_sought = record { inside = period_inside w book at b; rising = starts_rise; timed = e }

    -- where a later one has started a period has ended
    ended : (j i : ℕ) → i < j → j < periods_at book at → after (start_of w book at) moment j ≡ false → before moment (end_of i) ≡ false
    unfolding after
    ended j i h k f =
        let l = end_long i (omega arith) in
        unless (before moment (end_of i)) (before moment (start_of w book at j))
        (λ g.
        stays_after (start_of w book at) (periods_at book at) 14 starts_rise moment e j (i + 1) (omega arith) k
        (before_until moment (end_of i) (start_of w book at (i + 1)) (e ∙ sym l) (l ∙ sym (start_long (i + 1) (omega arith))) g (follows i (omega arith))))
        f

    -- with a PAN none covers but the last that has started by the moment
    pub covers_only : (k : ℕ) → k ≡ first_below (periods_at book at) (after (start_of w book at) moment) → (plate nation : List ℕ)
        → OnlyBefore (periods_at book at) k (covers_at w book at (asked true moment plate nation))
    unfolding covers_at period_covers in_time start_of after
    covers_only k f plate nation = record { within = within; others = each }
      where
        within : k ≤ periods_at book at
        within = omega (arith, first_le (after (start_of w book at) moment) (periods_at book at))

        each : (i : ℕ) → i < periods_at book at → (i + 1 ≡ k → ⊥) → covers_at w book at (asked true moment plate nation) i ≡ false
        each i h ne =
            either_side i k
            (λ l.
            and_false_right (not (before moment (start_part (period_of w book at i)))) _
            (ended (k - 1) i (omega arith) (omega (arith, within)) (first_before (after (start_of w book at) moment) (periods_at book at) (k - 1) (omega arith))))
            (λ l. rw (after_first (start_of w book at) (periods_at book at) 14 starts_rise moment e i (omega arith) h))
