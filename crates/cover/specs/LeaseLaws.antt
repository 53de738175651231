-- Lease references are never read: two books that differ only in them have the same form, for every width of a period. That they have the same cover stands in proofs/LeaseCoverLaws.
-- Assumes nothing.
use Rattle.std.specs.Prelude.{◌≡◌, length, get_or, take, drop}
use Rattle.std.proofs.Common.{sym, ◌∙◌, not-suc-le-zero, length-take, length-drop, ext_get_or, get_or-take, get_or-drop}
use Rattle.std.proofs.Math.Path.{ap}
use mathlib.Core.List.{List}
use Prim.Native.Nat.{ℕ, zero, suc, ◌+◌, ◌-◌, ◌≤◌, ◌<◌}
use native.Mathlib.Omega.{arith}
use Rattle.lines.specs.Below.{all_below}
use Rattle.lines.specs.BelowLaws.{below_suc}
use Rattle.lines.specs.BelowSame.{all_same}
use Rattle.lines.specs.Columns.{cols}
use Rattle.lines.specs.Number.{big_endian}
use Rattle.lines.specs.Rows.{line_place, line_of}
use Rattle.book.specs.Layout.{agreements, entry_layout, entry_of, pan_of, offset_of, body_head, periods_at, period_layout, period_of, body_of, body_end, body_place}
use Rattle.book.specs.LayoutLaws.{entry_ends, period_ends}
use Rattle.book.specs.Form.{follows_at, period_sound_at, periods_sound, body_sound, rises_at, entry_sound_at, entries_sound, agreement_sound, agreement_sound_at, bodies_sound, head_sound, book_sound, book_form}
use Rattle.cover.specs.OrderLaws.{either_side}
use Rattle.cover.specs.Lease.{OutsideLeases, SameButLeases}

-- ---- parts of two lists that agree there
part_even : (x y : List ℕ) (at n : ℕ) → length x ≡ length y → length (take n (drop at x)) ≡ length (take n (drop at y))
part_even x y at n e = omega (arith, length-take n (drop at x), length-take n (drop at y), length-drop at x, length-drop at y)

module _ (a b : List ℕ) (l : length a ≡ length b) where
  part_same : (at n : ℕ) → ((k : ℕ) → at ≤ k → k < at + n → get_or a k 0 ≡ get_or b k 0) → take n (drop at a) ≡ take n (drop at b)
  part_same at n each =
      ext_get_or 0 (take n (drop at a)) (take n (drop at b)) (part_even a b at n l)
      (λ i h.
      let m : i < n = omega (arith, length-take n (drop at a)) in
      get_or-take n (drop at a) i 0 m ∙ get_or-drop at a i 0 ∙ each (at + i) (omega arith) (omega arith) ∙ sym (get_or-take n (drop at b) i 0 m ∙ get_or-drop at b i 0))

  -- a part of a part
  inner_same : (at n from m : ℕ) → from + m ≤ n → ((k : ℕ) → at + from ≤ k → k < at + from + m → get_or a k 0 ≡ get_or b k 0)
      → take m (drop from (take n (drop at a))) ≡ take m (drop from (take n (drop at b)))
  inner_same at n from m fits each =
      ext_get_or 0 (take m (drop from (take n (drop at a)))) (take m (drop from (take n (drop at b))))
      (part_even (take n (drop at a)) (take n (drop at b)) from m (part_even a b at n l))
      (λ i h.
      let k : i < m = omega (arith, length-take m (drop from (take n (drop at a)))) in
      reach a i k ∙ each (at + (from + i)) (omega arith) (omega arith) ∙ sym (reach b i k))
    where
      reach : (x : List ℕ) (i : ℕ) → i < m → get_or (take m (drop from (take n (drop at x)))) i 0 ≡ get_or x (at + (from + i)) 0
      reach x i k =
          get_or-take m (drop from (take n (drop at x))) i 0 k
          ∙ get_or-drop from (take n (drop at x)) i 0
          ∙ get_or-take n (drop at x) (from + i) 0 (omega arith)
          ∙ get_or-drop at x (from + i) 0

-- ---- places of bodies rise
module _ (w : ℕ) (book : List ℕ) where
  places_start : (i : ℕ) → line_place entry_layout (agreements book) ≤ body_place w book i
  unfolding body_place body_end
  places_start zero = omega arith
  places_start (suc i) = omega (arith, places_start i)

  places_rise : (j i : ℕ) → i < j → body_end w book (body_place w book i) ≤ body_place w book j
  unfolding body_place body_end
  places_rise zero i h = absurd (not-suc-le-zero h)
  places_rise (suc j) i h =
      below_suc i j h
      (λ e. rw e (omega arith))
      (λ l. omega (arith, places_rise j i l))

  outside_front : (k : ℕ) → k < line_place entry_layout (agreements book) → OutsideLeases w book k
  outside_front k h i n from to = omega (arith, places_start i)

  -- what follows the lease reference of a body, to its end
  outside_body : (i k : ℕ) → body_place w book i + 12 ≤ k → k < body_end w book (body_place w book i) → OutsideLeases w book k
  unfolding body_end
  outside_body i k h t j n from to =
      either_side j i
      (λ l. omega (arith, places_rise i j l))
      (λ l. either_side i j (λ m. omega (arith, places_rise j i m)) (λ m. let e : i ≡ j = omega arith in omega (arith, ap (body_place w book) e)))

-- ---- everything that is read is the same
module _ (w : ℕ) (a b : List ℕ) (s : SameButLeases w a b) where
  pub same_agreements : agreements a ≡ agreements b
  unfolding agreements
  same_agreements = ap big_endian (part_same a b s.long 0 2 (λ k h t. s.alike k (outside_front w a k (omega arith))))

  same_entry : (i : ℕ) → i < agreements a → entry_of a i ≡ entry_of b i
  unfolding line_of
  same_entry i h =
      part_same a b s.long (line_place entry_layout i) 23
      (λ k f t. s.alike k (outside_front w a k (omega (arith, entry_ends (agreements a) i h))))

  pub same_pan : (i : ℕ) → i < agreements a → pan_of a i ≡ pan_of b i
  unfolding pan_of
  same_pan i h = ap (cols 1 19) (same_entry i h)

  same_offset : (i : ℕ) → i < agreements a → offset_of a i ≡ offset_of b i
  unfolding offset_of
  same_offset i h = ap (λ (e : List ℕ). big_endian (cols 20 23 e)) (same_entry i h)

  pub same_periods : (i : ℕ) → periods_at a (body_place w a i) ≡ periods_at b (body_place w a i)
  unfolding periods_at body_head body_end
  same_periods i =
      ap big_endian
      (inner_same a b s.long (body_place w a i) 14 12 2 (omega arith)
      (λ k h t. s.alike k (outside_body w a i k (omega arith) (omega arith))))

  same_end : (i : ℕ) → body_end w a (body_place w a i) ≡ body_end w b (body_place w a i)
  unfolding body_end
  same_end i = ap (body_of w (body_place w a i)) (same_periods i)

  pub same_place : (i : ℕ) → body_place w a i ≡ body_place w b i
  unfolding body_place
  same_place zero = ap (line_place entry_layout) same_agreements
  same_place (suc i) = same_end i ∙ ap (body_end w b) (same_place i)

  pub same_period : (i j : ℕ) → j < periods_at a (body_place w a i) → period_of w a (body_place w a i) j ≡ period_of w b (body_place w a i) j
  unfolding period_of line_of body_end
  same_period i j h =
      part_same a b s.long (line_place (period_layout w (body_place w a i)) j) w
      (λ k f t. s.alike k (outside_body w a i k (omega arith) (omega (arith, period_ends w (body_place w a i) (periods_at a (body_place w a i)) j h))))

  -- ---- the form
  same_head : head_sound a ≡ head_sound b
  unfolding head_sound
  same_head = rw (same_agreements, s.long)

  same_entries : entries_sound a ≡ entries_sound b
  unfolding entries_sound entry_sound_at rises_at
  same_entries =
      all_same (entry_sound_at a) (entry_sound_at b) (agreements a) (λ i h. rw (same_pan i h, same_pan (i - 1) (omega arith)))
      ∙ ap (λ (n : ℕ). all_below n (entry_sound_at b)) same_agreements

  same_periods_sound : (i : ℕ) → periods_sound w a (body_place w a i) (periods_at a (body_place w a i)) ≡ periods_sound w b (body_place w a i) (periods_at a (body_place w a i))
  unfolding periods_sound period_sound_at follows_at
  same_periods_sound i =
      let at = body_place w a i in
      let n = periods_at a at in
      all_same (period_sound_at w a at n) (period_sound_at w b at n) n
      (λ j h. rw (same_period i j h, same_period i (j - 1) (omega arith)))

  same_body : (i : ℕ) → body_sound w a (body_place w a i) ≡ body_sound w b (body_place w a i)
  unfolding body_sound
  same_body i = rw (same_periods_sound i, same_end i, same_periods i, s.long)

  same_agreement : (i : ℕ) → i < agreements a → agreement_sound_at w a i ≡ agreement_sound_at w b i
  unfolding agreement_sound_at agreement_sound
  same_agreement i h = rw (same_offset i h, same_body i, same_place i)

  same_bodies : bodies_sound w a ≡ bodies_sound w b
  unfolding bodies_sound
  same_bodies = rw (all_same (agreement_sound_at w a) (agreement_sound_at w b) (agreements a) same_agreement, same_place (agreements a), same_agreements, s.long)

  pub same_sound : book_sound w a ≡ book_sound w b
  unfolding book_sound
  same_sound = rw (same_head, same_entries, same_bodies)

  -- the same form, also where the books are not sound
  pub same_form : book_form w a ≡ book_form w b
  same_form = same_sound
