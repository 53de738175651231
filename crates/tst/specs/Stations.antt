-- The stations of a toll station table: whether a TIF's line names one of them (L9), and the index that finds it. Assumes nothing.
use Rattle.std.specs.Prelude.{◌≡◌, Bool, true, false, not, ◌||◌, List, ℕ}
use Rattle.chains.specs.declared.indexing.Index.{Index}
use Rattle.chains.specs.Index.{agrees_with, member_of, Indexed}
use Rattle.tst.specs.Columns.{tst_layout, station_spans, exit_spans}
use Rattle.tst.specs.Form.{is_lent, stations_of, table_sound}

-- line k of the table has the exit actor, station and lane of the TIF's line
abbrev pub stands_at : List ℕ → List ℕ → ℕ → Bool
stands_at tst line k = agrees_with tst_layout tst station_spans exit_spans line k

-- no table is lent, or one of its lines has the exit actor, station and lane of the TIF's line
unfoldable pub is_known_station : List ℕ → List ℕ → Bool
is_known_station tst line = not (is_lent tst) || member_of tst_layout tst station_spans (stations_of tst) exit_spans line

-- a sound table and, where it is lent, the index of its lines by their triples
pub record StationsIndexed (tst : List ℕ) (index : Index) : Type 0 where
  pub sound : table_sound tst ≡ true
  pub indexed : is_lent tst ≡ true → Indexed tst_layout tst station_spans (stations_of tst) index

pub unlent_known : (tst line : List ℕ) → is_lent tst ≡ false → is_known_station tst line ≡ true
unfolding is_known_station
unlent_known tst line e = rw e
