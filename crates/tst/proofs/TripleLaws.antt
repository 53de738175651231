-- What the triple means: a line that the look-up finds has the exit actor, station and lane of the TIF's line, as equal texts, and no other
-- line has them. Assumes nothing.
use Rattle.std.specs.Prelude.{◌≡◌, refl, Bool, true, false, ◌&&◌, List, ℕ, ◌<◌, ltb}
use Rattle.std.proofs.Common.{sym, ap, ◌∙◌, arith, ltb-true, ltb-false}
use Rattle.std.proofs.Math.Bool.{false≢true}
use Rattle.lines.specs.Below.{all_below}
use Rattle.lines.specs.BoolLaws.{and_true, and_left, and_right}
use Rattle.lines.specs.Same.{same}
use Rattle.lines.specs.SameLaws.{same_is, same_self}
use Rattle.lines.specs.Spans.{span_agrees, agree_across, agree_on}
use Rattle.chains.specs.Index.{agrees_with, agrees_here}
use Rattle.chains.specs.MemberLaws.{different_apart}
use Rattle.tst.specs.Columns.{tst_layout, station_spans}
use Rattle.tst.specs.Form.{is_lent, stations_of, row_of, table_sound}
use Rattle.tst.specs.FormLaws.{sound_tabled}
use Rattle.tst.specs.Stations.{stands_at}
use Rattle.tst.specs.StationsLaws.{Triple, station_triple, exit_triple}

-- ---- equal texts
-- triples whose texts are the same are equal, and equal ones have the same texts
module _ (t u : Triple) where
  abbrev actors : Bool
  actors = same t.actor u.actor

  abbrev stations : Bool
  stations = same t.station u.station

  abbrev lanes : Bool
  lanes = same t.lane u.lane

  same_triple : (actors && stations && lanes) ≡ true → t ≡ u
  same_triple e =
      let front = and_left (actors && stations) lanes e in
      ap (λ (s : List ℕ). record { actor = s; station = t.station; lane = t.lane }) (same_is _ _ (and_left actors stations front))
      ∙ ap (λ (s : List ℕ). record { actor = u.actor; station = s; lane = t.lane }) (same_is _ _ (and_right actors stations front))
      ∙ ap (λ (s : List ℕ). record { actor = u.actor; station = u.station; lane = s }) (same_is _ _ (and_right (actors && stations) lanes e))

  triple_same : t ≡ u → (actors && stations && lanes) ≡ true
  triple_same e =
      and_true (actors && stations) lanes
      (and_true actors stations (same_self _ _ (ap (λ (x : Triple). x.actor) e)) (same_self _ _ (ap (λ (x : Triple). x.station) e)))
      (same_self _ _ (ap (λ (x : Triple). x.lane) e))

-- ---- a line that is found
module _ (tst line : List ℕ) where
  -- a line of the table that agrees has the exit actor, station and lane
  pub stands_is : (k : ℕ) → stands_at tst line k ≡ true → station_triple (row_of tst k) ≡ exit_triple line
  unfolding agrees_with agree_across span_agrees all_below
  stands_is k e = same_triple (station_triple (row_of tst k)) (exit_triple line) e

  -- and one that has them agrees
  pub is_stands : (k : ℕ) → station_triple (row_of tst k) ≡ exit_triple line → stands_at tst line k ≡ true
  unfolding agrees_with agree_across span_agrees all_below
  is_stands k e = triple_same (station_triple (row_of tst k)) (exit_triple line) e

-- ---- a triple stands once
module _ (tst : List ℕ) (sound : table_sound tst ≡ true) (lent : is_lent tst ≡ true) where
  no_later : (i k : ℕ) → i < k → k < stations_of tst → station_triple (row_of tst i) ≡ station_triple (row_of tst k) → ⊥
  unfolding agrees_here agree_on agree_across span_agrees all_below
  no_later i k h b e =
      let apart = different_apart tst_layout tst station_spans (stations_of tst) (sound_tabled tst sound lent).different i k h b in
      false≢true (sym apart ∙ triple_same (station_triple (row_of tst i)) (station_triple (row_of tst k)) e)

  -- two lines with one triple are one line
  pub stations_apart : (i k : ℕ) → i < stations_of tst → k < stations_of tst → station_triple (row_of tst i) ≡ station_triple (row_of tst k) → i ≡ k
  stations_apart i k hi hk e = go (ltb i k) refl (ltb k i) refl
    where
      go : (a : Bool) → ltb i k ≡ a → (b : Bool) → ltb k i ≡ b → i ≡ k
      go true p b q = absurd (no_later i k (ltb-true i k p) hk e)
      go false p true q = absurd (no_later k i (ltb-true k i q) hi (sym e))
      go false p false q = omega (arith, ltb-false i k p, ltb-false k i q)
