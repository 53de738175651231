-- From a TIC that reads to its values: they are sound, and its rows are their texts. Assumes nothing.
use Rattle.std.specs.Prelude.{◌≡◌, true, ◌&&◌, take, drop, Ok}
use Rattle.std.proofs.Math.Path.{sym, ap}
use Rattle.std.proofs.Common.{◌∙◌, arith, get_or-take, eq-eqb}
use Rattle.std.proofs.Math.Bool.{Bool}
use mathlib.Core.List.{List, ◌++◌}
use Prim.Native.Nat.{ℕ, ◌≤◌, ◌<◌}
use Rattle.std.proofs.Math.ListN.{length}
use Rattle.lines.specs.Below.{all_below, join_below, sum_below}
use Rattle.lines.specs.BelowLaws.{all_at}
use Rattle.lines.specs.BoolLaws.{and_left, and_right}
use Rattle.lines.specs.BelowSame.{join_same, sum_same}
use Rattle.lines.specs.Class.{all_bytes}
use Rattle.lines.specs.Columns.{col}
use Rattle.lines.specs.Number.{all_digits, number_of}
use Rattle.lines.specs.NumberLaws.{number_small}
use Rattle.lines.specs.Rows.{file_length, one_feed, line_of, line_feed_at, feeds_stand}
use Rattle.lines.specs.RowsLaws.{footer_length}
use Rattle.tif.specs.Acceptance.{framed_count}
use Rattle.tif.specs.Every.{Tested, tested, holds}
use Rattle.tif.specs.PartLaws.{part_part, take_short}
use Rattle.tic.specs.ByteLaws.{bytes_part}
use Rattle.tic_text.specs.Columns.{tic_layout, tif_receiver, received_stem, reception_moment, accepted_sum_field, shown_part, code_part}
use Rattle.tic.specs.FeedLaws.{feed_free}
use Rattle.tic.specs.FileLaws.{file_joined}
use Rattle.tic.specs.Readable.{Readable, read_shows}
use Rattle.tic_parts.specs.Reading.{row_at, tic_header, tic_footer, tic_lines, head_of, sums_of, head_agrees, sums_fit, listed_formed, listed_formed_at, lines_formed, footer_formed, listed_amount, listed_sum, read_tic}
use Rattle.tic_parts.specs.ReadingLaws.{Listing, lined_at, footer_shows}
use Rattle.tic.specs.RenderedRows.{header_rendered, listed_rendered, footer_rendered}
use Rattle.tic.specs.Rewriting.{line_read, code_read, tic_of}
use Rattle.tic.specs.RewritingLaws.{Again, again, row_length}
use Rattle.tic_parts.specs.Shows.{header_shows, counts_show}
use Rattle.tic.specs.Sound.{not_feed, line_sound, code_sound, amount_of, Sound, numbers_of}
use Rattle.tic_text.specs.Text.{header_text, listed_at, listed_count, footer_text, tic_text}
use Rattle.tic_text.specs.TextLaws.{part_length}
use Rattle.tic_text.specs.declared.values.TicHead.{TicHead}
use Rattle.tic_text.specs.declared.values.TicSums.{TicSums}
use Rattle.tic_text.specs.declared.values.TicValues.{TicValues}

module _ (tic : List ℕ) (v : TicValues) (e : read_tic tic ≡ Ok v) where
  r : Readable tic v.listed
  r = (read_shows tic v e).0

  g : Again tic v
  g = again tic v e

  within : file_length tic_layout v.listed ≤ length tic
  within = omega (arith, g.long)

  -- ---- line feeds
  feeds : (one_feed (tic_header tic) ≡ true) × (all_below v.listed (line_feed_at tic_layout tic) ≡ true) × (one_feed (tic_footer tic v.listed) ≡ true)
  unfolding feeds_stand
  feeds =
      let a : Bool = one_feed (tic_header tic) in
      let b : Bool = all_below v.listed (line_feed_at tic_layout tic) in
      let c : Bool = one_feed (tic_footer tic v.listed) in
      let f = r.whole.feeds in
      (and_left a b (and_left (a && b) c f), and_right a b (and_left (a && b) c f), and_right (a && b) c f)

  row_feed : (k : ℕ) → k < v.listed → one_feed (row_at tic k) ≡ true
  unfolding line_feed_at
  row_feed k h = all_at (line_feed_at tic_layout tic) v.listed feeds.1 k h

  -- ---- the rows
  row_listing : (k : ℕ) → k < v.listed → Listing (row_at tic k)
  row_listing k h = lined_at tic v.listed (record { within = within; formed = r.formed; few = r.whole.counted.few }) k h

  row_formed : (k : ℕ) → k < v.listed → listed_formed (row_at tic k) ≡ true
  unfolding lines_formed listed_formed_at
  row_formed k h = all_at (listed_formed_at tic) v.listed r.formed k h

  rows_rendered : join_below v.listed (line_of tic_layout tic) ≡ join_below v.listed (listed_at (tic_of tic))
  unfolding listed_at line_read code_read
  rows_rendered =
      join_same (line_of tic_layout tic) (listed_at (tic_of tic)) v.listed
      (λ k h. listed_rendered (row_at tic k) (row_length tic v.listed within k h) (row_feed k h) (row_formed k h))

  pub rendered : tic ≡ tic_text (tic_of tic)
  unfolding tic_text
  rendered =
      let head : List ℕ = header_text (tif_receiver (tic_header tic)) (received_stem (tic_header tic)) (reception_moment (tic_header tic)) (head_of (tic_header tic)) in
      let lines : ℕ → List ℕ = listed_at (tic_of tic) in
      let foot : List ℕ = tic_footer tic v.listed in
      file_joined tic_layout tic v.listed g.long
      ∙ ap (λ (s : List ℕ). s ++ join_below v.listed (line_of tic_layout tic) ++ foot) (header_rendered (tic_header tic) v.listed g.header_long feeds.0 r.header r.counts)
      ∙ ap (λ (s : List ℕ). head ++ s ++ foot) rows_rendered
      ∙ ap (λ (k : ℕ). head ++ join_below k lines ++ foot) (sym g.count)
      ∙ ap (λ (s : List ℕ). head ++ join_below (listed_count (tic_of tic)) lines ++ s) (footer_rendered foot (footer_length tic_layout tic v.listed within) feeds.2 r.footer)
      ∙ ap (λ (k : ℕ). head ++ join_below (listed_count (tic_of tic)) lines ++ footer_text (sums_of (tic_footer tic k))) (sym (ap framed_count r.framed))

  -- ---- the values are sound
  pub numbers : v ≡ numbers_of (tic_of tic)
  numbers =
      ap (λ (x : TicHead). record { head = x; listed = v.listed; sums = v.sums }) g.head
      ∙ ap (λ (x : ℕ). record { head = head_of (tic_header tic); listed = x; sums = v.sums }) (sym g.count)
      ∙ ap (λ (x : TicSums). record { head = head_of (tic_header tic); listed = listed_count (tic_of tic); sums = x }) g.sums

  amount_same : (k : ℕ) → listed_amount tic k ≡ amount_of (tic_of tic) k
  unfolding listed_amount amount_of line_read
  amount_same k = ap number_of (sym (part_part 11 136 809 0 (row_at tic k) (omega arith)))

  summed : sum_below v.listed (amount_of (tic_of tic)) ≡ listed_sum tic v.listed
  unfolding listed_sum
  summed = sum_same (amount_of (tic_of tic)) (listed_amount tic) v.listed (λ k h. sym (amount_same k))

  line_sound_lem : (k : ℕ) → k < v.listed → line_sound (line_read tic k) ≡ true
  unfolding line_sound line_read
  line_sound_lem k h =
      let row : List ℕ = row_at tic k in
      let l : length row ≡ 812 = row_length tic v.listed within k h in
      let s = row_listing k h in
      sym (tested (holds (eq-eqb (length (shown_part row)) 809 (part_length 0 809 row (omega arith)))
      (holds (eq-eqb (col 1 (shown_part row)) 49 (get_or-take 809 row 0 0 (omega arith) ∙ s.first))
      (holds (ap (all_bytes not_feed) (sym (part_part 809 0 811 0 row (omega arith))) ∙ bytes_part not_feed (take 811 row) 0 809 (feed_free row 811 (omega arith) (row_feed k h)))
      (holds (ap all_digits (part_part 11 136 809 0 row (omega arith)) ∙ s.amount) Tested.done)))))

  code_sound_lem : (k : ℕ) → k < v.listed → code_sound (code_read tic k) ≡ true
  unfolding code_sound code_read
  code_sound_lem k h =
      let row : List ℕ = row_at tic k in
      let l : length row ≡ 812 = row_length tic v.listed within k h in
      sym (tested (holds (eq-eqb (length (code_part row)) 2 (part_length 809 2 row (omega arith))) (holds (row_listing k h).code Tested.done)))

  pub sound : Sound (tic_of tic)
  sound =
      let h = header_shows (tic_header tic) r.header in
      let lines : tic_lines tic ≡ v.listed = ap framed_count r.framed in
      record {
        receiver = h.receiver;
        stem = h.stem;
        moment = h.moment;
        counts = ap (head_agrees (head_of (tic_header tic))) g.count ∙ (counts_show (tic_header tic) v.listed r.counts).agrees;
        line = λ k l. line_sound_lem k (omega (arith, g.count));
        code = λ k l. code_sound_lem k (omega (arith, g.count));
        sums =
            ap (λ (k : ℕ). sums_fit (head_of (tic_header tic)) (sums_of (tic_footer tic k)) (sum_below (listed_count (tic_of tic)) (amount_of (tic_of tic)))) lines
            ∙ ap (sums_fit (head_of (tic_header tic)) (sums_of (tic_footer tic v.listed))) (ap (λ (k : ℕ). sum_below k (amount_of (tic_of tic))) g.count ∙ summed)
            ∙ r.sums;
        fifteen =
            let f : List ℕ = tic_footer tic (tic_lines tic) in
            number_small (accepted_sum_field f) 15 (take_short 15 (drop 1 f)) (footer_shows f (ap (λ (k : ℕ). footer_formed (tic_footer tic k)) lines ∙ r.footer)).accepted;
      }
