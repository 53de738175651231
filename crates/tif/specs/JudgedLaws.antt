-- What it shows of a file that it is to be judged line by line. Assumes nothing.
use Rattle.std.specs.Prelude.{◌≡◌, refl, Bool, true, false, ◌&&◌, List, [], ◌∷◌, ℕ, ◌≤◌, ◌<◌, length, take, eqb, ltb, Ok, Err, Option, Some, None}
use Rattle.std.proofs.Common.{sym, ap, ◌∙◌, arith, length-take-le}
use Rattle.std.proofs.lemmas.Bool.{false≢true}
use borrow.Author.Tests.{eqb-true, not-false, le-ltb}
use Rattle.lines.specs.Below.{all_below}
use Rattle.lines.specs.BelowLaws.{all_at}
use Rattle.lines.specs.BoolLaws.{and_left, and_right}
use Rattle.lines.specs.Columns.{col}
use Rattle.lines.specs.FirstOf.{Row, ◌⇒◌, first_of}
use Rattle.lines.specs.Rows.{header_of, one_feed, line_feed_at, feeds_stand, framed_lines, footer_of}
use Rattle.lines.specs.RowsLaws.{Framed, framed_is, line_ends, line_length}
use Rattle.lines.specs.Same.{same}
use Rattle.lines.specs.SameLaws.{same_is}
use Rattle.tif.specs.Acceptance.{Acceptance, is_framed, framed_count, tif_lines, tif_header, tif_footer, whole_of, acceptance_of}
use Rattle.tif.specs.Body.{line_at, line_sound, line_sound_at, body_sound, body_total}
use Rattle.tif.specs.BodyLaws.{sum_small}
use Rattle.tif.specs.Columns.{tif_layout, header_side, header_sender, header_receiver, header_sequence}
use Rattle.tif.specs.Every.{every_first, every_rest}
use Rattle.tif.specs.Footer.{footer_sound, total_of}
use Rattle.tif.specs.Header.{names_file, header_formed, header_sound, records_of, transactions_of, counts_agree}
use Rattle.tif.specs.Judged.{SoundLine, SoundHeader, JudgedFile}
use Rattle.tif.specs.Name.{name_sender, name_receiver, name_identity}
use Rattle.tif.specs.PartLaws.{front_part}
use Rattle.tif.specs.Received.{is_received}
use Rattle.tif.specs.Side.{side_text, side_of, is_sided}
use Rattle.tif.specs.declared.acceptance.Whole.{Whole}
use Rattle.tif.specs.declared.side.Side.{Side}

-- an answer that carries lines comes from past every row that carries none
carries : Acceptance → Bool
carries (Ok w) = true
carries (Err e) = false

passed : (b : Bool) (a other : Acceptance) (rows : List (Row Acceptance)) (w : Whole) → carries a ≡ false → first_of ((b ⇒ a) ∷ rows) other ≡ Ok w
    → (b ≡ false) × (first_of rows other ≡ Ok w)
unfolding first_of carries
passed true a other rows w n e = absurd (false≢true (sym n ∙ ap carries e))
passed false a other rows w n e = (refl, e)

-- past all of them it is the answer where none applies
whole_is : (v w : Whole) → first_of {A = Acceptance} [] (Ok v) ≡ Ok w → v ≡ w
unfolding first_of
whole_is v w e = cc

framed_of : (l : Option ℕ) → is_framed l ≡ true → l ≡ Some (framed_count l)
framed_of (Some n) e = refl
framed_of None e = absurd (false≢true e)

-- columns 74 to 76 of the file are those of its header
side_if : Bool → List ℕ → Side
side_if missing text = first_of ((missing ⇒ Side.Neither) ∷ (same text (side_text Side.Credit) ⇒ Side.Credit) ∷ (same text (side_text Side.Debit) ⇒ Side.Debit) ∷ []) Side.Neither

pub side_header : (tif : List ℕ) → 162 ≤ length tif → side_of (tif_header tif) ≡ side_of tif
unfolding side_of header_of side_if
side_header tif h =
    let w : length (take 162 tif) ≡ 162 = length-take-le 162 tif h in
    ap (λ (b : Bool). side_if b (header_side (take 162 tif))) (le-ltb (length (take 162 tif)) 76 (omega arith) ∙ sym (le-ltb (length tif) 76 (omega arith)))
    ∙ ap (side_if (ltb (length tif) 76)) (front_part 73 3 162 tif (omega arith))

pub header_shows : (name header : List ℕ) → header_sound name header ≡ true → SoundHeader name header
unfolding header_sound names_file header_formed
header_shows name header e =
    let a = every_first _ _ e in
    let a₁ = every_rest _ _ a in
    let a₂ = every_rest _ _ a₁ in
    let a₃ = every_rest _ _ a₂ in
    let f = every_first _ _ (every_rest _ _ e) in
    record {
      sound = e;
      sender = same_is (header_sender header) (name_sender name) (every_first _ _ a₁);
      receiver = same_is (header_receiver header) (name_receiver name) (every_first _ _ a₂);
      sequence = same_is (header_sequence header) (name_identity name) (every_first _ _ a₃);
      sided = every_first _ _ (every_rest _ _ f);
    }

-- line k of a framed file whose lines are sound
module _ (tif : List ℕ) (n : ℕ) (f : Framed tif_layout tif n) where
  line_feed : (k : ℕ) → k < n → one_feed (line_at tif k) ≡ true
  unfolding feeds_stand line_feed_at
  line_feed k h =
      all_at (line_feed_at tif_layout tif) n
      (and_right (one_feed (header_of tif_layout tif)) (all_below n (line_feed_at tif_layout tif))
      (and_left (one_feed (header_of tif_layout tif) && all_below n (line_feed_at tif_layout tif)) (one_feed (footer_of tif_layout tif n)) f.feeds))
      k h

  line_shows : body_sound tif n ≡ true → (k : ℕ) → k < n → SoundLine (line_at tif k)
  unfolding body_sound line_sound_at line_sound
  line_shows e k h =
      let t = all_at (line_sound_at tif) n e k h in
      record {
        long = line_length tif_layout tif k (omega (arith, line_ends tif_layout n k h, f.counted.long));
        first = eqb-true (col 1 (line_at tif k)) 49 (every_first _ _ t);
        digits = every_first _ _ (every_rest _ _ t);
        feed = line_feed k h;
      }

-- the sum of the amounts of at most 9,999 sound lines
pub total_small : (tif : List ℕ) (n : ℕ) → n ≤ 9999 → body_sound tif n ≡ true → body_total tif n < 1000000000000000
unfolding body_sound body_total
total_small tif n h e = omega (arith, sum_small tif n e)

-- what the rows show of a file of n lines, once none applies
judged_at : (name names tif : List ℕ) (n : ℕ) → is_received names name ≡ false → framed_lines tif_layout tif ≡ Some n → header_sound name (tif_header tif) ≡ true
    → body_sound tif n ≡ true → footer_sound (tif_footer tif n) ≡ true → counts_agree (records_of (tif_header tif)) (transactions_of (tif_header tif)) n ≡ true
    → eqb (total_of (tif_footer tif n)) (body_total tif n) ≡ true → JudgedFile name names tif (whole_of tif n)
judged_at name names tif n fresh frame header body footer counts total =
    let f = framed_is tif_layout tif n frame in
    let h = header_shows name (tif_header tif) header in
    record {
      fresh = fresh;
      framed = f;
      header = h;
      each = line_shows tif n f body;
      footer = footer;
      counts = counts;
      stated = eqb-true (total_of (tif_footer tif n)) (body_total tif n) total;
      sum = refl;
      sided = ap is_sided (sym (side_header tif (omega (arith, f.counted.long)))) ∙ h.sided;
      small = total_small tif n f.counted.few body;
    }

pub judged_shows : (name names tif : List ℕ) (w : Whole) → acceptance_of name names tif ≡ Ok w → JudgedFile name names tif w
unfolding acceptance_of carries
judged_shows name names tif w e =
    let c₁ = passed _ _ _ _ w refl e in
    let c₂ = passed _ _ _ _ w refl c₁.1 in
    let c₃ = passed _ _ _ _ w refl c₂.1 in
    let c₄ = passed _ _ _ _ w refl c₃.1 in
    let c₅ = passed _ _ _ _ w refl c₄.1 in
    let c₆ = passed _ _ _ _ w refl c₅.1 in
    let c₇ = passed _ _ _ _ w refl c₆.1 in
    let all =
    judged_at name names tif (tif_lines tif) c₁.0 (framed_of (framed_lines tif_layout tif) (not-false _ c₂.0)) (not-false _ c₃.0) (not-false _ c₄.0) (not-false _ c₅.0) (not-false _ c₆.0) (not-false _ c₇.0) in
    rw (whole_is (whole_of tif (tif_lines tif)) w c₇.1) at all
