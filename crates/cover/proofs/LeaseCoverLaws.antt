-- Lease references are never read: two books that differ only in them have the same cover for every passage, for every width of a period.
-- These laws stand here and not in specs/, so that an edit of the definition of the cover is tried against them: a wrong one makes them false, and the check refuses it.
-- Assumes nothing.
use Rattle.std.specs.Prelude.{◌≡◌, List, ℕ}
use Rattle.std.proofs.Common.{◌∙◌}
use Rattle.std.proofs.Math.Path.{ap}
use Rattle.lines.specs.Below.{first_below}
use Rattle.lines.specs.BelowSame.{first_same}
use Rattle.book.specs.Layout.{agreements, periods_at, body_place}
use Rattle.cover.specs.Cover.{Asked, asking, covers_at, covering_period, has_cover, pan_is, agreement_of, covering_agreement, cover_in, cover_of}
use Rattle.cover.specs.Lease.{SameButLeases}
use Rattle.cover.specs.LeaseLaws.{same_agreements, same_pan, same_periods, same_place, same_period}

module _ (w : ℕ) (a b : List ℕ) (s : SameButLeases w a b) where
  module _ (q : Asked) where
    same_covering : (i : ℕ) → covering_period w a (body_place w a i) q ≡ covering_period w b (body_place w b i) q
    unfolding covering_period covers_at
    same_covering i =
        let at = body_place w a i in
        first_same (covers_at w a at q) (covers_at w b at q) (periods_at a at) (λ j h. rw (same_period w a b s i j h))
        ∙ ap (λ (n : ℕ). first_below n (covers_at w b at q)) (same_periods w a b s i)
        ∙ ap (λ (p : ℕ). first_below (periods_at b p) (covers_at w b p q)) (same_place w a b s i)

    same_has : (i : ℕ) → has_cover w a q i ≡ has_cover w b q i
    unfolding has_cover
    same_has i = rw (same_covering i, same_periods w a b s i, same_place w a b s i)

    same_agreement_of : (pan : List ℕ) → agreement_of a pan ≡ agreement_of b pan
    unfolding agreement_of pan_is
    same_agreement_of pan =
        first_same (pan_is a pan) (pan_is b pan) (agreements a) (λ i h. rw (same_pan w a b s i h))
        ∙ ap (λ (n : ℕ). first_below n (pan_is b pan)) (same_agreements w a b s)

    same_covering_agreement : (pan : List ℕ) → covering_agreement w a pan q ≡ covering_agreement w b pan q
    unfolding covering_agreement
    same_covering_agreement pan =
        rw (same_agreement_of pan, first_same (has_cover w a q) (has_cover w b q) (agreements a) (λ i h. same_has i), same_agreements w a b s)

    same_cover_in : (i : ℕ) → cover_in w a q i ≡ cover_in w b q i
    unfolding cover_in
    same_cover_in i = rw (same_has i, same_covering i, same_agreements w a b s)

  -- the same cover for every passage, also where the books are not sound
  pub same_cover : (pan moment plate nation : List ℕ) → cover_of w a pan moment plate nation ≡ cover_of w b pan moment plate nation
  unfolding cover_of
  same_cover pan moment plate nation =
      let q = asking pan moment plate nation in
      same_cover_in q (covering_agreement w a pan q) ∙ ap (cover_in w b q) (same_covering_agreement q pan)
