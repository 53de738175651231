-- Texts without a line feed: actors, names, moments, digits, and pieces of them joined. Assumes nothing.
use Rattle.std.specs.Prelude.{◌≡◌, refl, Bool, true, false, not, ◌&&◌, ◌||◌, List, [], ◌∷◌, ◌++◌, ℕ, ◌≤◌, length, replicate, eqb, leb}
use Rattle.std.proofs.Common.{sym, ap, ◌∙◌, arith, eqb-true}
use Rattle.lines.specs.Below.{all_below}
use Rattle.lines.specs.BoolLaws.{and_left, and_right}
use Rattle.lines.specs.Class.{is_digit, is_capital, is_of, byte_is, all_bytes, all_of}
use Rattle.lines.specs.ClassLaws.{between_is, digit_is}
use Rattle.lines.specs.Columns.{cols}
use Rattle.lines.specs.Number.{all_digits, number_of, digits_of}
use Rattle.lines.specs.Rows.{one_feed}
use Rattle.lines.specs.Tests.{ne_not}
use Rattle.lines.specs.declared.class.Class.TheVariants.{Digit, DigitOrCapital}
use Rattle.moment.specs.MomentLaws.{date_shows}
use Rattle.tif.specs.Name.{is_actor, is_sequence, is_file_stem}
use Rattle.tif.specs.NameLaws.{stem_shows}
use Rattle.tif.specs.Side.{side_text}
use Rattle.tif.specs.declared.side.Side.{Side}
use Rattle.tif.specs.declared.side.Side.TheVariants.{Credit, Debit, Neither}
use Rattle.tic.specs.ByteLaws.{bytes_append, bytes_none, bytes_run, bytes_weaken}
use Rattle.tic.specs.DigitLaws.{digits_all}
use Rattle.tic.specs.FeedLaws.{feed_last}
use Rattle.tic_text.specs.PieceLaws.{cut_joined, joined_append}
use Rattle.tic_text.specs.Pieces.{joined}
use Rattle.tic.specs.Sound.{not_feed}
use Rattle.tic_text.specs.Text.{line_feed, zeros, blanks}

-- ---- no byte of these classes is a line feed
not_ten : (b : ℕ) → 11 ≤ b → not_feed b ≡ true
unfolding not_feed
not_ten b h = ne_not b 10 (λ e. omega arith)

digit_free : (b : ℕ) → is_of Digit b ≡ true → not_feed b ≡ true
digit_free b e = let d = digit_is b e in not_ten b (omega arith)

card_free : (b : ℕ) → is_of DigitOrCapital b ≡ true → not_feed b ≡ true
unfolding is_of is_digit is_capital
card_free b e = go (leb 48 b && leb b 57) refl e
  where
    go : (a : Bool) → (leb 48 b && leb b 57) ≡ a → (a || (leb 65 b && leb b 90)) ≡ true → not_feed b ≡ true
    go true f p = let d = between_is 48 57 b f in not_ten b (omega arith)
    go false f p = let d = between_is 65 90 b p in not_ten b (omega arith)

pub digits_free : (s : List ℕ) → all_digits s ≡ true → all_bytes not_feed s ≡ true
unfolding all_digits all_of
digits_free s e = bytes_weaken (is_of Digit) not_feed digit_free s e

pub cards_free : (s : List ℕ) → all_of DigitOrCapital s ≡ true → all_bytes not_feed s ≡ true
unfolding all_of
cards_free s e = bytes_weaken (is_of DigitOrCapital) not_feed card_free s e

pub run_free : (n b : ℕ) → 11 ≤ b → all_bytes not_feed (replicate n b) ≡ true
run_free n b h = bytes_run not_feed n b (not_ten b h)

pub blanks_free : (n : ℕ) → all_bytes not_feed (blanks n) ≡ true
unfolding blanks
blanks_free n = run_free n 32 (omega arith)

pub zeros_free : (n : ℕ) → all_bytes not_feed (zeros n) ≡ true
unfolding zeros
zeros_free n = run_free n 48 (omega arith)

pub number_free : (w v : ℕ) → all_bytes not_feed (digits_of w v) ≡ true
number_free w v = digits_free (digits_of w v) (digits_all w v)

pub side_free : (s : Side) → all_bytes not_feed (side_text s) ≡ true
unfolding all_bytes byte_is all_below not_feed
side_free Credit = refl
side_free Debit = refl
side_free Neither = refl

-- ---- actors and names
pub actor_shows : (s : List ℕ) → is_actor s ≡ true → (length s ≡ 6) × (all_of DigitOrCapital s ≡ true)
unfolding is_actor
actor_shows s e = (eqb-true (length s) 6 (and_left (eqb (length s) 6) (all_of DigitOrCapital s) e), and_right (eqb (length s) 6) (all_of DigitOrCapital s) e)

sequence_digits : (s : List ℕ) → is_sequence s ≡ true → all_digits s ≡ true
unfolding is_sequence
sequence_digits s e = and_left (all_digits s) (not (eqb (number_of s) 0)) e

-- ---- pieces
pub data FeedFree : List (List ℕ) → Type 0 where
  nil : FeedFree []
  cons : {p : List ℕ} {ps : List (List ℕ)} → all_bytes not_feed p ≡ true → FeedFree ps → FeedFree (p ∷ ps)

pub joined_free : {ps : List (List ℕ)} → FeedFree ps → all_bytes not_feed (joined ps) ≡ true
unfolding joined
joined_free nil = bytes_none not_feed
joined_free (cons {p} {ps} e f) = bytes_append not_feed p (joined ps) e (joined_free f)

-- and a line feed behind them
pub joined_feed : (ps : List (List ℕ)) → FeedFree ps → one_feed (joined (ps ++ (line_feed ∷ []))) ≡ true
unfolding joined
joined_feed ps f = ap one_feed (joined_append ps (line_feed ∷ [])) ∙ feed_last (joined ps) (joined_free f)

-- the constructor as a function, whose piece is then read off what is to be shown
pub with_piece : {p : List ℕ} {ps : List (List ℕ)} → all_bytes not_feed p ≡ true → FeedFree ps → FeedFree (p ∷ ps)
with_piece e f = FeedFree.cons e f

pub stem_free : (s : List ℕ) → is_file_stem s ≡ true → all_bytes not_feed s ≡ true
stem_free s e =
    let t = stem_shows s e in
    ap (all_bytes not_feed) (sym (cut_joined 0 (6 ∷ 8 ∷ 4 ∷ []) s (omega (arith, t.long))))
    ∙ joined_free
    (with_piece (cards_free (cols 1 6 s) (actor_shows (cols 1 6 s) t.actor).1)
    (with_piece (digits_free (cols 7 14 s) (date_shows (cols 7 14 s) t.date).1)
    (with_piece (digits_free (cols 15 18 s) (sequence_digits (cols 15 18 s) t.sequence)) FeedFree.nil)))
