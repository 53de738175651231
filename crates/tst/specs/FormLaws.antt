-- What is known of a lent table of the right form. Assumes nothing.
use Rattle.std.specs.Prelude.{◌≡◌, refl, true, ◌&&◌, List, ℕ, ◌+◌, ◌≤◌, ◌<◌, length, Option, Some, None}
use Rattle.std.proofs.lemmas.Bool.{false≢true}
use Rattle.std.proofs.Common.{arith}
use Rattle.lines.specs.Below.{all_below}
use Rattle.lines.specs.BelowLaws.{all_at}
use Rattle.lines.specs.BoolLaws.{and_left, and_right}
use Rattle.lines.specs.Rows.{line_place, file_length, header_of, footer_of, framed_lines, Counted}
use Rattle.lines.specs.RowsLaws.{Framed, framed_is, line_ends, line_length, header_length, footer_length}
use Rattle.lines.specs.Spans.{span_in, spans_in}
use Rattle.passage.specs.Passage.{line_width}
use Rattle.chains.specs.Index.{Ruled, Asked, all_different}
use Rattle.tst.specs.Columns.{tst_layout, header_width, row_width, footer_width, station_spans, exit_spans}
use Rattle.tst.specs.Form.{is_lent, stations_of, row_of, header_formed, station_formed_at, stations_formed, footer_formed, rows_formed, formed_with, table_formed, table_sound, Tabled}

-- the number of lines is the one that the length gives
framed_number : (tst : List ℕ) (m : ℕ) → Framed tst_layout tst m → m ≡ stations_of tst
framed_number tst m f = omega (arith, f.counted.long)

-- the first n of m lines can be indexed by their triples
pub counted_ruled : (tst : List ℕ) (m n : ℕ) → Counted tst_layout (length tst) m → n ≤ m → Ruled tst_layout tst station_spans n
unfolding spans_in span_in all_below
counted_ruled tst m n c h = record { fits = omega (arith, c.long); few = omega (arith, c.few); inside = refl }

-- the parts of a table of m lines
module _ (tst : List ℕ) (m : ℕ) (c : Counted tst_layout (length tst) m) where
  pub counted_long : file_length tst_layout m ≤ length tst
  counted_long = omega (arith, c.long)

  pub head_length : length (header_of tst_layout tst) ≡ header_width
  head_length = header_length tst_layout tst (omega (arith, c.long))

  pub foot_length : length (footer_of tst_layout tst m) ≡ footer_width
  foot_length = footer_length tst_layout tst m counted_long

  module _ (k : ℕ) (h : k < m) where
    pub row_ends : line_place tst_layout k + row_width ≤ length tst
    row_ends = omega (arith, c.long, line_ends tst_layout m k h)

    pub row_length : length (row_of tst k) ≡ row_width
    row_length = line_length tst_layout tst k row_ends

pub framed_counted : (tst : List ℕ) (m : ℕ) → framed_lines tst_layout tst ≡ Some m → Counted tst_layout (length tst) m
framed_counted tst m e = (framed_is tst_layout tst m e).counted

module _ (tst : List ℕ) (m : ℕ) (f : Framed tst_layout tst m) (e : rows_formed tst m ≡ true) where
  after : (stations_formed tst m && (footer_formed (footer_of tst_layout tst m) && all_different tst_layout tst station_spans m)) ≡ true
  unfolding rows_formed
  after =
      and_right (header_formed (header_of tst_layout tst) m) (stations_formed tst m && (footer_formed (footer_of tst_layout tst m) && all_different tst_layout tst station_spans m)) e

  rows_tabled : Tabled tst
  unfolding stations_formed station_formed_at
  rows_tabled =
      let n = framed_number tst m f in
      let footer = footer_formed (footer_of tst_layout tst m) in
      let last = all_different tst_layout tst station_spans m in
      let lines = and_left (stations_formed tst m) (footer && last) after in
      let different = and_right footer last (and_right (stations_formed tst m) (footer && last) after) in
      record {
        framed = rw n at f;
        each = λ k h. all_at (station_formed_at tst) m lines k (omega arith);
        different = rw n at different;
      }

formed_tabled : (tst : List ℕ) → table_formed tst ≡ true → Tabled tst
unfolding table_formed formed_with
formed_tabled tst e = go (framed_lines tst_layout tst) refl e
  where
    go : (lines : Option ℕ) → framed_lines tst_layout tst ≡ lines → formed_with tst lines ≡ true → Tabled tst
    go (Some m) f p = rows_tabled tst m (framed_is _ _ _ f) p
    go None f p = absurd (false≢true p)

-- a sound table that is lent is of the right form
pub sound_tabled : (tst : List ℕ) → table_sound tst ≡ true → is_lent tst ≡ true → Tabled tst
unfolding table_sound
sound_tabled tst e l = formed_tabled tst (rw l at e)

-- so its lines can be indexed by their triples
pub sound_long : (tst : List ℕ) → table_sound tst ≡ true → is_lent tst ≡ true → file_length tst_layout 0 ≤ length tst
sound_long tst e l = omega (arith, (sound_tabled tst e l).framed.counted.long)

pub sound_ruled : (tst : List ℕ) → table_sound tst ≡ true → is_lent tst ≡ true → Ruled tst_layout tst station_spans (stations_of tst)
sound_ruled tst e l = counted_ruled tst _ _ (sound_tabled tst e l).framed.counted (omega arith)

-- and a TIF's line has the three fields to ask for
pub exit_asked : (line : List ℕ) → length line ≡ line_width → Asked station_spans exit_spans line
unfolding spans_in span_in all_below
exit_asked line e = record { inside = rw e; paired = refl }
