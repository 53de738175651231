-- What the index of PANs finds: the last entry that has a PAN, which is the only one. Assumes nothing.
use Rattle.std.specs.Prelude.{◌≡◌, refl, true, List, ℕ, zero, suc, ◌-◌, ◌≤◌, ◌<◌, length, ltb}
use Rattle.std.proofs.Math.Path.{sym, ap}
use Rattle.std.proofs.Common.{◌∙◌, arith, take_all}
use Rattle.std.proofs.Math.Bool.{not}
use Rattle.lines.specs.Below.{all_below}
use Rattle.lines.specs.BelowLaws.{some_each, first_hit, first_none}
use Rattle.lines.specs.Found.{found_below, found_first, found_past}
use Rattle.lines.specs.Spans.{span_in, spans_in, span_agrees, agree_across}
use Rattle.chains.specs.Last.{last_below, place_of, last_place}
use Rattle.chains.specs.LastLaws.{last_le, last_is, last_some}
use Rattle.chains.specs.Index.{Ruled, Asked, agrees_with}
use Rattle.book.specs.Layout.{width, agreements, entry_layout, pan_of}
use Rattle.book.specs.Form.{book_sound, Whole}
use Rattle.book.specs.FormLaws.{whole_is}
use Rattle.cover.specs.UntilLaws.{unless}
use Rattle.cover.specs.Cover.{pan_is, agreement_of, Named}
use Rattle.cover.specs.CoverLaws.{pan_once}
use Rattle.cover.specs.Pans.{pan_span}

-- the entries of a sound book are lines that can be indexed
pub entries_ruled : (w : ℕ) (book : List ℕ) → Whole w book → Ruled entry_layout book pan_span (agreements book)
unfolding spans_in span_in all_below
entries_ruled w book s = record { fits = s.headed.entries; few = omega (arith, s.headed.few); inside = refl }

-- a PAN of nineteen bytes can be asked for
pub pan_asked : (pan : List ℕ) → length pan ≡ 19 → Asked pan_span pan_span pan
unfolding spans_in span_in all_below
pan_asked pan e = record { inside = rw e; paired = refl }

-- so are those of a book that is found sound
pub sound_ruled : (book : List ℕ) → book_sound width book ≡ true → Ruled entry_layout book pan_span (agreements book)
sound_ruled book e = entries_ruled width book (whole_is width book e)

pub sound_enough : (book : List ℕ) → book_sound width book ≡ true → 2 ≤ length book
sound_enough book e = (whole_is width book e).headed.enough

module _ (w : ℕ) (book pan : List ℕ) (n : Named w book pan) where
  -- an entry agrees just where it has the PAN
  agrees_pan : agrees_with entry_layout book pan_span pan_span pan ≡ pan_is book pan
  unfolding agrees_with agree_across span_agrees all_below pan_is pan_of
  agrees_pan = ap (pan_is book) (take_all 19 pan (omega (arith, n.full)))

  module _ (last : ℕ) (e : last ≡ last_below (agreements book) (agrees_with entry_layout book pan_span pan_span pan)) where
    is_last : last ≡ last_below (agreements book) (pan_is book pan)
    is_last = e ∙ ap (last_below (agreements book)) agrees_pan

    pub no_agreement : last ≡ 0 → agreements book ≡ agreement_of book pan
    unfolding agreement_of
    no_agreement z = sym (first_none (pan_is book pan) (agreements book) (last_some (pan_is book pan) (agreements book) ∙ ap (ltb 0) (sym is_last ∙ z)))

    pub last_agreement : 0 < last → last - 1 ≡ agreement_of book pan
    unfolding agreement_of
    last_agreement h =
        let within : last - 1 < agreements book = omega (arith, is_last, last_le (pan_is book pan) (agreements book)) in
        let here = last_is (pan_is book pan) (agreements book) (last - 1) (omega (arith, is_last)) in
        sym
        (first_hit (pan_is book pan) (agreements book) (last - 1) within
        (some_each (pan_is book pan) (last - 1) (λ i l. unless (pan_is book pan i) (not (pan_is book pan (last - 1))) (λ t. ap not (pan_once w book pan n i (last - 1) l within t)) (ap not here)))
        here)

    -- counted from 0
    pub agreement_at : place_of last ≡ found_below (agreements book) (pan_is book pan)
    unfolding place_of agreement_of
    agreement_at = go last refl
      where
        go : (k : ℕ) → last ≡ k → place_of k ≡ found_below (agreements book) (pan_is book pan)
        go zero z = found_past (agreements book) (pan_is book pan) (no_agreement z)
        go (suc k) z =
            let s : k ≡ last - 1 = omega arith in
            found_first (agreements book) (pan_is book pan) k (omega (arith, is_last, last_le (pan_is book pan) (agreements book))) (s ∙ last_agreement (omega arith))

  pub pan_found : last_place (agreements book) (agrees_with entry_layout book pan_span pan_span pan) ≡ found_below (agreements book) (pan_is book pan)
  pan_found = agreement_at (last_below (agreements book) (agrees_with entry_layout book pan_span pan_span pan)) refl
