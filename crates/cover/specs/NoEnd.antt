-- Fourteen nines as an end mean none: they are no moment themselves, and every real moment stands before them. Assumes nothing.
use Rattle.std.specs.Prelude.{◌≡◌, Bool, ◌&&◌, ℕ, replicate}
use Rattle.std.proofs.Math.Path.{refl, ap}
use Rattle.std.proofs.Common.{sym, ◌∙◌, true≢false, arith}
use Rattle.std.proofs.Math.Bool.{true, false, not}
use mathlib.Core.List.{List}
use Rattle.std.proofs.Math.ListN.{get_or, get_or-replicate}
use Rattle.lines.specs.Below.{all_below}
use Rattle.lines.specs.Class.{is_digit, is_of, byte_is, all_bytes, all_of}
use Rattle.lines.specs.ClassLaws.{digit_is, all_of_at}
use Rattle.lines.specs.FirstOf.{first_of}
use Rattle.lines.specs.Number.{value_below, all_digits, number_of}
use Rattle.lines.specs.Same.{same, before}
use Rattle.lines.specs.SameLaws.{same_is}
use Rattle.lines.specs.declared.class.Class.TheVariants.{Digit}
use Rattle.moment.specs.Calendar.{is_leap, days_in}
use Rattle.moment.specs.Moment.{date_fault, time_fault, check_moment, is_moment}
use Rattle.moment.specs.MomentLaws.{moment_shows}
use Rattle.book.specs.Layout.{start_part, end_part}
use Rattle.cover.specs.Cover.{in_time}
use Rattle.cover.specs.OrderLaws.{before_is, before_total}

abbrev pub no_end : List ℕ
no_end = replicate 14 57

pub no_end_unreal : is_moment no_end ≡ false
unfolding is_moment check_moment date_fault time_fault days_in is_leap first_of all_digits number_of value_below all_of all_bytes byte_is is_of is_digit all_below
no_end_unreal = refl

module _ (s : List ℕ) (e : is_moment s ≡ true) where
  other : same s no_end ≡ false
  other = go (same s no_end) refl
    where
      go : (t : Bool) → same s no_end ≡ t → t ≡ false
      go true z = absurd (true≢false (sym (ap is_moment (sym (same_is s no_end z)) ∙ e) ∙ no_end_unreal))
      go false z = refl

  pub no_end_after : before s no_end ≡ true
  unfolding all_digits
  no_end_after = go (before s no_end) refl
    where
      go : (t : Bool) → before s no_end ≡ t → t ≡ true
      go true z = refl
      go false z =
          let d = moment_shows s e in
          let g = before_is no_end s (before_total s no_end d.0 other z) in
          let low : get_or no_end g.place 0 ≡ 57 = get_or-replicate 14 g.place 57 0 g.inside in
          let high = digit_is (get_or s g.place 0) (all_of_at Digit s d.1 g.place (omega (arith, g.inside, d.0))) in
          absurd (omega (arith, g.less))

  -- so a period that has no end covers every moment from its start on
  pub no_end_covers : (period : List ℕ) → end_part period ≡ no_end → in_time s period ≡ not (before s (start_part period))
  unfolding in_time
  no_end_covers period z = ap (λ (t : List ℕ). not (before s (start_part period)) && before s t) z ∙ rest (before s (start_part period))
    where
      rest : (b : Bool) → (not b && before s no_end) ≡ not b
      rest true = refl
      rest false = no_end_after
