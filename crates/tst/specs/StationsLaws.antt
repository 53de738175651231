-- What the look-up means: a station is known just if it stands in one of the table's lines. Assumes nothing.
-- That a line it stands in has the exit actor, station and lane, as equal texts, and that no other has them, is shown in proofs/TripleLaws.
use Rattle.std.specs.Prelude.{◌≡◌, true, not, List, ℕ}
use Rattle.lines.specs.BoolLaws.{or_true_right}
use Rattle.chains.specs.Index.{member_of}
use Rattle.chains.specs.MemberLaws.{Found, member_there, there_member}
use Rattle.passage.specs.Passage as passage
use Rattle.tst.specs.Columns.{tst_layout, actor, station, lane, station_spans, exit_spans}
use Rattle.tst.specs.Form.{is_lent, stations_of}
use Rattle.tst.specs.Stations.{stands_at, is_known_station}

-- ---- the triple
-- what names a lane of a station: three texts
pub record Triple : Type 0 where
  pub actor : List ℕ
  pub station : List ℕ
  pub lane : List ℕ

-- that of a table's line
abbrev pub station_triple : List ℕ → Triple
station_triple row = record { actor = actor row; station = station row; lane = lane row }

-- that of a TIF's line
abbrev pub exit_triple : List ℕ → Triple
exit_triple line = record { actor = passage.exit_actor line; station = passage.station line; lane = passage.lane line }

-- ---- the look-up means membership
module _ (tst line : List ℕ) where
  -- a station known by a lent table stands in one of its lines
  pub known_there : is_lent tst ≡ true → is_known_station tst line ≡ true → Found (stations_of tst) (stands_at tst line)
  unfolding is_known_station
  known_there l e = member_there tst_layout tst station_spans (stations_of tst) exit_spans line (rw l at e)

  -- and one that stands there is known
  pub there_known : Found (stations_of tst) (stands_at tst line) → is_known_station tst line ≡ true
  unfolding is_known_station
  there_known f =
      or_true_right (not (is_lent tst)) (member_of tst_layout tst station_spans (stations_of tst) exit_spans line)
      (there_member tst_layout tst station_spans (stations_of tst) exit_spans line f.at f.below f.agrees)
