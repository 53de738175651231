-- The texts of a header, a listed line and a footer read as what they were written for. Assumes nothing.
use Rattle.std.specs.Prelude.{◌≡◌, refl, true, get_or, take, drop}
use Rattle.std.proofs.Math.Path.{sym, ap}
use Rattle.std.proofs.Common.{◌∙◌, arith, get_or-take, drop-drop, take-add, take_all, eqb-true, eq-eqb}
use mathlib.Core.List.{List, [], ◌∷◌, ◌++◌}
use Prim.Native.Nat.{ℕ, ◌^◌, ◌<◌}
use Rattle.std.proofs.Math.ListN.{length}
use Rattle.lines.specs.Below.{all_below, some_below, first_below}
use Rattle.lines.specs.Class.{byte_is, all_bytes, all_of}
use Rattle.lines.specs.Columns.{col, cols}
use Rattle.lines.specs.FirstOf.{first_of}
use Rattle.lines.specs.Number.{all_digits, number_of, digits_of}
use Rattle.lines.specs.NumberLaws.{digits_length}
use Rattle.lines.specs.Rows.{one_feed}
use Rattle.lines.specs.Same.{differ_at, first_difference, same}
use Rattle.lines.specs.SameLaws.{same_self}
use Rattle.lines.specs.declared.class.Class.TheVariants.{DigitOrCapital, Only}
use Rattle.moment.specs.Moment.{is_moment}
use Rattle.moment.specs.MomentLaws.{moment_shows}
use Rattle.passage.specs.Passage.{gross_amount}
use Rattle.tif.specs.Every.{Tested, tested, holds, every_first, every_rest}
use Rattle.tif.specs.Header.{nok}
use Rattle.tif.specs.Name.{is_actor, is_file_stem, tif_kind, version}
use Rattle.tif.specs.NameLaws.{stem_shows}
use Rattle.tif.specs.PartLaws.{part_part}
use Rattle.tif.specs.Side.{side_text, side_in}
use Rattle.tif.specs.declared.side.Side.{Side}
use Rattle.tif.specs.declared.side.Side.TheVariants.{Credit, Debit, Neither}
use Rattle.tic.specs.ByteLaws.{bytes_part, only_run}
use Rattle.tic_text.specs.Columns.{accepted_field, rejected_field, side_field, accepted_again, rejected_again, shown_part, code_part, rejected_sum_field, tif_receiver, received_stem, reception_moment}
use Rattle.tic.specs.DigitLaws.{digits_all, number_digits}
use Rattle.tic.specs.FreeLaws.{digits_free, cards_free, blanks_free, zeros_free, number_free, side_free, actor_shows, stem_free, FeedFree, with_piece, joined_feed}
use Rattle.tic_text.specs.PieceLaws.{joined_cut}
use Rattle.tic_text.specs.Pieces.{joined, widths_of, cut_from}
use Rattle.tic_parts.specs.Reading.{names_one_tif, is_side, header_formed, header_digits, header_sound, head_of, head_agrees, counts_agree, listed_formed, footer_formed, sums_of}
use Rattle.tic.specs.RenderedRows.{one_byte, header_widths, listed_widths, footer_widths}
use Rattle.tic.specs.Sound.{not_feed, line_sound, code_sound}
use Rattle.tic_text.specs.Text.{tic_kind, zeros, blanks, fifteen, front_pieces, count_pieces, filler_pieces, header_pieces, header_text, listed_pieces, listed_text, footer_pieces, footer_text}
use Rattle.tic_text.specs.TextLaws.{part_length, zeros_length, blanks_length, side_length}
use Rattle.tic_text.specs.declared.values.TicHead.{TicHead}
use Rattle.tic_text.specs.declared.values.TicSums.{TicSums}

-- piece i
abbrev nth : ℕ → List (List ℕ) → List ℕ
nth i ps = get_or ps i []

-- the first byte, by the first piece
first_byte : (s : List ℕ) (b : ℕ) → take 1 s ≡ b ∷ [] → get_or s 0 0 ≡ b
first_byte s b e = sym (get_or-take 1 s 0 0 (omega arith)) ∙ ap (λ (x : List ℕ). get_or x 0 0) e

-- pieces joined and cut by the widths that they have
cut_again : (ps : List (List ℕ)) (ws : List ℕ) → widths_of ps ≡ ws → cut_from 0 ws (joined ps) ≡ ps
cut_again ps ws e = ap (λ (x : List ℕ). cut_from 0 x (joined ps)) (sym e) ∙ joined_cut [] ps 0 refl

-- a side's text names it
side_back : (s : Side) → side_in (side_text s) ≡ s
unfolding side_in first_of same first_difference differ_at first_below some_below
side_back Credit = refl
side_back Debit = refl
side_back Neither = refl

side_is : (s : Side) → is_side (side_text s) ≡ true
unfolding is_side same first_difference differ_at first_below some_below
side_is Credit = refl
side_is Debit = refl
side_is Neither = refl

-- fillers
blanks_only : (n : ℕ) → all_of (Only 32) (blanks n) ≡ true
unfolding blanks
blanks_only n = only_run 32 n

zeros_only : (n : ℕ) → all_of (Only 48) (zeros n) ≡ true
unfolding zeros
zeros_only n = only_run 48 n

-- the bytes of these literal texts
literal_free : (all_bytes not_feed (48 ∷ []) ≡ true) × (all_bytes not_feed (49 ∷ []) ≡ true) × (all_bytes not_feed (50 ∷ []) ≡ true) × (all_bytes not_feed tic_kind ≡ true) × (all_bytes not_feed tif_kind ≡ true) × (all_bytes not_feed nok ≡ true) × (all_bytes not_feed version ≡ true)
unfolding all_bytes byte_is all_below not_feed
literal_free = (refl, refl, refl, refl, refl, refl, refl)

-- ---- the header
-- what its values must be
pub record HeaderValues (receiver stem moment : List ℕ) (h : TicHead) : Type 0 where
  pub actor : is_actor receiver ≡ true
  pub named : is_file_stem stem ≡ true
  pub real : is_moment moment ≡ true
  pub accepted : h.accepted.0 < 10 ^ 15
  pub rejected : h.rejected.0 < 10 ^ 15
  pub acceptance : h.acceptance < 10 ^ 2

module _ (receiver stem moment : List ℕ) (h : TicHead) (s : HeaderValues receiver stem moment h) where
  header_widths_lem : widths_of (header_pieces receiver stem moment h) ≡ header_widths
  header_widths_lem =
      let l : length stem ≡ 18 = (stem_shows stem s.named).long in
      rw ((actor_shows receiver s.actor).0, part_length 0 6 stem (omega arith), l, (moment_shows moment s.real).0, digits_length 15 h.accepted.0, digits_length 15 h.rejected.0, side_length h.side, blanks_length 6, zeros_length 46, digits_length 2 h.acceptance)

  text_cut : cut_from 0 header_widths (header_text receiver stem moment h) ≡ header_pieces receiver stem moment h
  unfolding header_text
  text_cut = cut_again (header_pieces receiver stem moment h) header_widths header_widths_lem

  piece : (i : ℕ) → nth i (cut_from 0 header_widths (header_text receiver stem moment h)) ≡ nth i (header_pieces receiver stem moment h)
  piece i = ap (nth i) text_cut

  pub receiver_back : tif_receiver (header_text receiver stem moment h) ≡ receiver
  receiver_back = piece 1

  pub stem_back : received_stem (header_text receiver stem moment h) ≡ stem
  stem_back = piece 6

  pub moment_back : reception_moment (header_text receiver stem moment h) ≡ moment
  moment_back = piece 7

  -- columns 35 to 55: "TIF" and the stem
  pub identity_back : cols 35 55 (header_text receiver stem moment h) ≡ tif_kind ++ stem
  identity_back =
      let t : List ℕ = header_text receiver stem moment h in
      take-add 3 18 (drop 34 t)
      ∙ ap (λ (x : List ℕ). take 3 (drop 34 t) ++ take 18 x) (drop-drop 3 34 t)
      ∙ ap (λ (x : List ℕ). x ++ take 18 (drop 37 t)) (piece 5)
      ∙ ap (λ (x : List ℕ). tif_kind ++ x) (piece 6)

  names : names_one_tif (header_text receiver stem moment h) ≡ true
  unfolding names_one_tif
  names =
      let t : List ℕ = header_text receiver stem moment h in
      sym (tested (holds (eq-eqb (col 1 t) 48 (first_byte t 48 (piece 0)))
      (holds (ap is_actor (piece 1) ∙ s.actor)
      (holds (same_self (cols 8 13 t) (cols 38 43 t) (piece 2 ∙ ap (λ (x : List ℕ). cols 1 6 x) (sym (piece 6)) ∙ part_part 6 0 18 37 t (omega arith)))
      (holds (same_self (cols 14 16 t) tic_kind (piece 3))
      (holds (same_self (cols 17 34 t) (cols 38 55 t) (piece 4 ∙ sym (piece 6)))
      (holds (same_self (cols 35 37 t) tif_kind (piece 5))
      (holds (ap is_file_stem (piece 6) ∙ s.named) Tested.done))))))))

  formed : header_formed (header_text receiver stem moment h) ≡ true
  unfolding header_formed
  formed =
      let t : List ℕ = header_text receiver stem moment h in
      sym (tested (holds (ap is_moment (piece 7) ∙ s.real)
      (holds (same_self (cols 70 72 t) nok (piece 8))
      (holds (ap is_side (piece 11) ∙ side_is h.side)
      (holds (same_self (cols 136 141 t) version (piece 14))
      (holds (ap (all_of (Only 32)) (piece 15) ∙ blanks_only 6)
      (holds (ap (all_of (Only 48)) (piece 16) ∙ zeros_only 46) Tested.done)))))))

  digits : header_digits (header_text receiver stem moment h) ≡ true
  unfolding header_digits
  digits =
      sym (tested (holds (ap all_digits (piece 9) ∙ digits_all 15 h.accepted.0)
      (holds (ap all_digits (piece 10) ∙ digits_all 15 h.rejected.0)
      (holds (ap all_digits (piece 12) ∙ digits_all 15 h.accepted.0)
      (holds (ap all_digits (piece 13) ∙ digits_all 15 h.rejected.0)
      (holds (ap all_digits (piece 17) ∙ digits_all 2 h.acceptance) Tested.done))))))

  pub text_sound : header_sound (header_text receiver stem moment h) ≡ true
  unfolding header_sound
  text_sound = sym (tested (holds names (holds formed (holds digits Tested.done))))

  -- the numbers come back
  pub head_back : head_of (header_text receiver stem moment h) ≡ h
  head_back =
      let t : List ℕ = header_text receiver stem moment h in
      ap (λ (x : ℕ). record { acceptance = x; side = side_in (side_field t); accepted = record { 0 = number_of (accepted_field t) }; rejected = record { 0 = number_of (rejected_field t) } })
      (ap number_of (piece 17) ∙ number_digits 2 h.acceptance s.acceptance)
      ∙ ap (λ (x : Side). record { acceptance = h.acceptance; side = x; accepted = record { 0 = number_of (accepted_field t) }; rejected = record { 0 = number_of (rejected_field t) } })
      (ap side_in (piece 11) ∙ side_back h.side)
      ∙ ap (λ (x : ℕ). record { acceptance = h.acceptance; side = h.side; accepted = record { 0 = x }; rejected = record { 0 = number_of (rejected_field t) } })
      (ap number_of (piece 9) ∙ number_digits 15 h.accepted.0 s.accepted)
      ∙ ap (λ (x : ℕ). record { acceptance = h.acceptance; side = h.side; accepted = h.accepted; rejected = record { 0 = x } })
      (ap number_of (piece 10) ∙ number_digits 15 h.rejected.0 s.rejected)

  pub text_counts : (n : ℕ) → head_agrees h n ≡ true → counts_agree (header_text receiver stem moment h) n ≡ true
  unfolding counts_agree
  text_counts n e =
      let t : List ℕ = header_text receiver stem moment h in
      sym (tested (holds (eq-eqb (number_of (accepted_again t)) (number_of (accepted_field t)) (ap number_of (piece 12 ∙ sym (piece 9))))
      (holds (eq-eqb (number_of (rejected_again t)) (number_of (rejected_field t)) (ap number_of (piece 13 ∙ sym (piece 10))))
      (holds (ap (λ (x : TicHead). head_agrees x n) head_back ∙ e) Tested.done))))

  pub header_feed : one_feed (header_text receiver stem moment h) ≡ true
  unfolding header_text
  header_feed =
      let t = literal_free in
      let l : length stem ≡ 18 = (stem_shows stem s.named).long in
      joined_feed (front_pieces receiver stem moment ++ count_pieces h ++ (filler_pieces ++ (digits_of 2 h.acceptance ∷ [])))
      (with_piece t.0
      (with_piece (cards_free receiver (actor_shows receiver s.actor).1)
      (with_piece (cards_free (cols 1 6 stem) (actor_shows (cols 1 6 stem) (stem_shows stem s.named).actor).1)
      (with_piece t.3
      (with_piece (stem_free stem s.named)
      (with_piece t.4
      (with_piece (stem_free stem s.named)
      (with_piece (digits_free moment (moment_shows moment s.real).1)
      (with_piece t.5
      (with_piece (number_free 15 h.accepted.0)
      (with_piece (number_free 15 h.rejected.0)
      (with_piece (side_free h.side)
      (with_piece (number_free 15 h.accepted.0)
      (with_piece (number_free 15 h.rejected.0)
      (with_piece t.6
      (with_piece (blanks_free 6)
      (with_piece (zeros_free 46)
      (with_piece (number_free 2 h.acceptance) FeedFree.nil))))))))))))))))))

-- ---- a listed line
pub record LineShown (line : List ℕ) : Type 0 where
  pub long : length line ≡ 809
  pub first : col 1 line ≡ 49
  pub free : all_bytes not_feed line ≡ true
  pub amount : all_digits (gross_amount line) ≡ true

pub line_shows : (line : List ℕ) → line_sound line ≡ true → LineShown line
unfolding line_sound
line_shows line e =
    let e₁ = every_rest _ _ e in
    let e₂ = every_rest _ _ e₁ in
    let e₃ = every_rest _ _ e₂ in
    record {
      long = eqb-true (length line) 809 (every_first _ _ e);
      first = eqb-true (col 1 line) 49 (every_first _ _ e₁);
      free = every_first _ _ e₂;
      amount = every_first _ _ e₃;
    }

pub code_shows : (code : List ℕ) → code_sound code ≡ true → (length code ≡ 2) × (all_of DigitOrCapital code ≡ true)
unfolding code_sound
code_shows code e = (eqb-true (length code) 2 (every_first _ _ e), every_first _ _ (every_rest _ _ e))

module _ (line code : List ℕ) (l : LineShown line) (c : length code ≡ 2) (cards : all_of DigitOrCapital code ≡ true) where
  row_cut : cut_from 0 listed_widths (listed_text line code) ≡ listed_pieces line code
  unfolding listed_text
  row_cut = cut_again (listed_pieces line code) listed_widths (rw (part_length 1 808 line (omega (arith, l.long)), c))

  part : (i : ℕ) → nth i (cut_from 0 listed_widths (listed_text line code)) ≡ nth i (listed_pieces line code)
  part i = ap (nth i) row_cut

  -- the line and its code come back
  pub line_back : shown_part (listed_text line code) ≡ line
  line_back =
      let row : List ℕ = listed_text line code in
      take-add 1 808 row
      ∙ ap (λ (s : List ℕ). s ++ take 808 (drop 1 row)) (part 0 ∙ sym first)
      ∙ ap (λ (s : List ℕ). take 1 line ++ s) (part 1)
      ∙ sym (take-add 1 808 line)
      ∙ take_all 809 line (omega (arith, l.long))
    where
      first : take 1 line ≡ 49 ∷ []
      first = one_byte line 0 49 (omega (arith, l.long)) l.first

  pub code_back : code_part (listed_text line code) ≡ code
  code_back = part 2

  pub amount_back : gross_amount (listed_text line code) ≡ gross_amount line
  amount_back =
      sym (part_part 11 136 809 0 (listed_text line code) (omega arith))
      ∙ ap (λ (s : List ℕ). gross_amount s) line_back

  pub row_formed : listed_formed (listed_text line code) ≡ true
  unfolding listed_formed
  row_formed =
      let row : List ℕ = listed_text line code in
      sym (tested (holds (eq-eqb (col 1 row) 49 (first_byte row 49 (part 0)))
      (holds (ap all_digits amount_back ∙ l.amount)
      (holds (ap (all_of DigitOrCapital) code_back ∙ cards) Tested.done))))

  pub row_feed : one_feed (listed_text line code) ≡ true
  unfolding listed_text
  row_feed =
      joined_feed ((49 ∷ []) ∷ cols 2 809 line ∷ code ∷ [])
      (with_piece literal_free.1 (with_piece (bytes_part not_feed line 1 808 l.free) (with_piece (cards_free code cards) FeedFree.nil)))

-- ---- the footer
module _ (s : TicSums) (a : s.accepted.0 < 10 ^ 15) (r : s.rejected.0 < 10 ^ 15) where
  foot_cut : cut_from 0 footer_widths (footer_text s) ≡ footer_pieces s
  unfolding footer_text
  foot_cut = cut_again (footer_pieces s) footer_widths (rw (digits_length 15 s.accepted.0, digits_length 15 s.rejected.0, zeros_length 96))

  field : (i : ℕ) → nth i (cut_from 0 footer_widths (footer_text s)) ≡ nth i (footer_pieces s)
  field i = ap (nth i) foot_cut

  pub foot_formed : footer_formed (footer_text s) ≡ true
  unfolding footer_formed
  foot_formed =
      sym (tested (holds (eq-eqb (col 1 (footer_text s)) 50 (first_byte (footer_text s) 50 (field 0)))
      (holds (ap all_digits (field 1) ∙ digits_all 15 s.accepted.0)
      (holds (ap all_digits (field 2) ∙ digits_all 15 s.rejected.0)
      (holds (ap (all_of (Only 48)) (field 3) ∙ zeros_only 96) Tested.done)))))

  pub sums_back : sums_of (footer_text s) ≡ s
  sums_back =
      ap (λ (x : ℕ). record { accepted = record { 0 = x }; rejected = record { 0 = number_of (rejected_sum_field (footer_text s)) } })
      (ap number_of (field 1) ∙ number_digits 15 s.accepted.0 a)
      ∙ ap (λ (x : ℕ). record { accepted = s.accepted; rejected = record { 0 = x } })
      (ap number_of (field 2) ∙ number_digits 15 s.rejected.0 r)

  pub foot_feed : one_feed (footer_text s) ≡ true
  unfolding footer_text
  foot_feed =
      joined_feed ((50 ∷ []) ∷ fifteen s.accepted.0 ∷ fifteen s.rejected.0 ∷ zeros 96 ∷ [])
      (with_piece literal_free.2 (with_piece (number_free 15 s.accepted.0) (with_piece (number_free 15 s.rejected.0) (with_piece (zeros_free 96) FeedFree.nil))))
