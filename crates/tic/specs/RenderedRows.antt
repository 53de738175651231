-- A header, a listed line and a footer that read are the texts of their values. Assumes nothing.
use Rattle.std.specs.Prelude.{◌≡◌, true, List, [], ◌∷◌, ℕ, ◌+◌, ◌<◌, length, get_or, take, drop, replicate}
use Rattle.std.proofs.Math.Path.{refl, sym, ap}
use Rattle.std.proofs.Common.{◌∙◌, arith, drop-cons}
use Rattle.lines.specs.Class.{all_of}
use Rattle.lines.specs.Number.{all_digits, number_of, digits_of}
use Rattle.lines.specs.Rows.{one_feed}
use Rattle.lines.specs.declared.class.Class.TheVariants.{Only}
use Rattle.tif.specs.PartLaws.{part_part}
use Rattle.tic.specs.ByteLaws.{only_is}
use Rattle.tic_text.specs.Columns.{tif_receiver, received_stem, reception_moment, shown_part, code_part}
use Rattle.tic.specs.DigitLaws.{digits_number}
use Rattle.tic.specs.FeedLaws.{feed_at}
use Rattle.tic_text.specs.PieceLaws.{cut_joined}
use Rattle.tic_text.specs.Pieces.{joined, cut_from}
use Rattle.tic_parts.specs.Reading.{header_sound, head_of, counts_agree, listed_formed, footer_formed, sums_of}
use Rattle.tic_parts.specs.ReadingLaws.{listed_shows, footer_shows}
use Rattle.tic_parts.specs.Shows.{header_shows, counts_show}
use Rattle.tic_text.specs.Text.{zeros, blanks, fifteen, header_pieces, header_text, listed_pieces, listed_text, footer_pieces, footer_text}
use Rattle.tic_text.specs.TextLaws.{part_length}

-- ---- the widths of the pieces
abbrev pub header_widths : List ℕ
header_widths = 1 ∷ 6 ∷ 6 ∷ 3 ∷ 18 ∷ 3 ∷ 18 ∷ 14 ∷ 3 ∷ 15 ∷ 15 ∷ 3 ∷ 15 ∷ 15 ∷ 6 ∷ 6 ∷ 46 ∷ 2 ∷ 1 ∷ []

abbrev pub listed_widths : List ℕ
listed_widths = 1 ∷ 808 ∷ 2 ∷ 1 ∷ []

abbrev pub footer_widths : List ℕ
footer_widths = 1 ∷ 15 ∷ 15 ∷ 96 ∷ 1 ∷ []

-- ---- one piece
-- a column by itself
pub one_byte : (s : List ℕ) (i b : ℕ) → i < length s → get_or s i 0 ≡ b → take 1 (drop i s) ≡ b ∷ []
one_byte s i b h e = rw (drop-cons s i 0 h) (ap (λ (x : ℕ). x ∷ []) e)

-- digits, by the number they write
number_text : (s : List ℕ) (i w : ℕ) → i + w < length s + 1 → all_digits (take w (drop i s)) ≡ true → take w (drop i s) ≡ digits_of w (number_of (take w (drop i s)))
number_text s i w h e = sym (digits_number (take w (drop i s)) w (part_length i w s (omega arith)) e)

-- a run of one byte
run_text : (s : List ℕ) (i w b : ℕ) → i + w < length s + 1 → all_of (Only b) (take w (drop i s)) ≡ true → take w (drop i s) ≡ replicate w b
run_text s i w b h e = only_is b (take w (drop i s)) e ∙ ap (λ (n : ℕ). replicate n b) (part_length i w s (omega arith))

-- pieces that are equal one by one
both : {p q : List ℕ} {ps qs : List (List ℕ)} → p ≡ q → ps ≡ qs → ◌≡◌ {A = List (List ℕ)} (p ∷ ps) (q ∷ qs)
both {p} {q} {ps} {qs} e f = rw (e, f)

-- ---- the header
module _ (h : List ℕ) (n : ℕ) (long : length h ≡ 196) (feed : one_feed h ≡ true) (sound : header_sound h ≡ true) (counts : counts_agree h n ≡ true) where
  header_cut : cut_from 0 header_widths h ≡ header_pieces (tif_receiver h) (received_stem h) (reception_moment h) (head_of h)
  unfolding blanks zeros
  header_cut =
      let s = header_shows h sound in
      let c = counts_show h n counts in
      let again = number_text h 105 15 (omega arith) s.digits.again ∙ ap fifteen c.accepted in
      let too = number_text h 120 15 (omega arith) s.digits.rejected_too ∙ ap fifteen c.rejected in
      both (one_byte h 0 48 (omega arith) s.first)
      (both refl
      (both (s.sender ∙ sym (part_part 6 0 18 37 h (omega arith)))
      (both s.own
      (both s.own_too
      (both s.kind
      (both refl
      (both refl
      (both s.currency
      (both (number_text h 72 15 (omega arith) s.digits.accepted)
      (both (number_text h 87 15 (omega arith) s.digits.rejected)
      (both s.side
      (both again
      (both too
      (both s.versioned
      (both (run_text h 141 6 32 (omega arith) s.number)
      (both (run_text h 147 46 48 (omega arith) s.filler)
      (both (number_text h 193 2 (omega arith) s.digits.acceptance)
      (both (one_byte h 195 10 (omega arith) (feed_at h 195 (omega arith) feed)) refl))))))))))))))))))

  pub header_rendered : h ≡ header_text (tif_receiver h) (received_stem h) (reception_moment h) (head_of h)
  unfolding header_text
  header_rendered = sym (cut_joined 0 header_widths h (omega arith)) ∙ ap joined header_cut

-- ---- a listed line
module _ (row : List ℕ) (long : length row ≡ 812) (feed : one_feed row ≡ true) (formed : listed_formed row ≡ true) where
  listed_cut : cut_from 0 listed_widths row ≡ listed_pieces (shown_part row) (code_part row)
  listed_cut =
      both (one_byte row 0 49 (omega arith) (listed_shows row formed).first)
      (both (sym (part_part 808 1 809 0 row (omega arith)))
      (both refl
      (both (one_byte row 811 10 (omega arith) (feed_at row 811 (omega arith) feed)) refl)))

  pub listed_rendered : row ≡ listed_text (shown_part row) (code_part row)
  unfolding listed_text
  listed_rendered = sym (cut_joined 0 listed_widths row (omega arith)) ∙ ap joined listed_cut

-- ---- the footer
module _ (f : List ℕ) (long : length f ≡ 128) (feed : one_feed f ≡ true) (formed : footer_formed f ≡ true) where
  footer_cut : cut_from 0 footer_widths f ≡ footer_pieces (sums_of f)
  unfolding zeros
  footer_cut =
      let s = footer_shows f formed in
      both (one_byte f 0 50 (omega arith) s.first)
      (both (number_text f 1 15 (omega arith) s.accepted)
      (both (number_text f 16 15 (omega arith) s.rejected)
      (both (run_text f 31 96 48 (omega arith) s.filler)
      (both (one_byte f 127 10 (omega arith) (feed_at f 127 (omega arith) feed)) refl))))

  pub footer_rendered : f ≡ footer_text (sums_of f)
  unfolding footer_text
  footer_rendered = sym (cut_joined 0 footer_widths f (omega arith)) ∙ ap joined footer_cut
