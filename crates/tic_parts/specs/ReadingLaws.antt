-- What the tests of a TIC show. Assumes nothing.
use Rattle.std.specs.Prelude.{◌≡◌, refl, true, List, ℕ, ◌*◌, ◌≤◌, ◌<◌, length, take, drop, Result, Ok, Err, Some, None}
use Rattle.std.proofs.Common.{ap, ◌∙◌, arith, eqb-true}
use Rattle.lines.specs.Below.{sum_below}
use Rattle.lines.specs.BelowLaws.{all_at, sum_le}
use Rattle.lines.specs.Class.{all_of}
use Rattle.lines.specs.Columns.{col}
use Rattle.lines.specs.Number.{all_digits}
use Rattle.lines.specs.FirstOf.{Picks, picked, here, past}
use Rattle.lines.specs.Rows.{most_lines, file_length, framed_lines}
use Rattle.lines.specs.declared.class.Class.TheVariants.{DigitOrCapital, Only}
use Rattle.passage.specs.Passage.{gross_amount}
use Rattle.passage.specs.PassageLaws.{gross_small}
use Rattle.tif.specs.Every.{every_first, every_rest}
use Rattle.tif.specs.PartLaws.{take_short}
use Rattle.tic_text.specs.Columns.{tic_layout, accepted_field, rejected_field, accepted_again, rejected_again, acceptance_field, code_part, accepted_sum_field, rejected_sum_field, footer_filler}
use Rattle.tic_parts.specs.Reading.{header_digits, header_sound, head_of, listed_formed, row_at, listed_formed_at, lines_formed, footer_formed, listed_amount, read_rows, values_of, read_tic}
use Rattle.tic_text.specs.declared.values.TicHead.{TicHead}
use Rattle.tic_text.specs.declared.values.TicValues.{TicValues}
use Rattle.tic_text.specs.declared.fault.TicFault.{TicFault}
use Rattle.tic_text.specs.declared.fault.TicFault.TheVariants.{Framing}

-- a header with its numbers, and how many lines are listed
pub record Counting (h : List ℕ) (head : TicHead) (n : ℕ) : Type 0 where
  pub long : length h ≡ 196
  pub digits : header_digits h ≡ true
  pub value : head ≡ head_of h
  pub few : n ≤ most_lines

-- n lines of the right form, not too many, with a footer behind them
pub record Lined (tic : List ℕ) (n : ℕ) : Type 0 where
  pub within : file_length tic_layout n ≤ length tic
  pub formed : lines_formed tic n ≡ true
  pub few : n ≤ most_lines

-- the five digit fields of a header
pub record Numbered (h : List ℕ) : Type 0 where
  pub accepted : all_digits (accepted_field h) ≡ true
  pub rejected : all_digits (rejected_field h) ≡ true
  pub again : all_digits (accepted_again h) ≡ true
  pub rejected_too : all_digits (rejected_again h) ≡ true
  pub acceptance : all_digits (acceptance_field h) ≡ true

pub digits_show : (h : List ℕ) → header_digits h ≡ true → Numbered h
unfolding header_digits
digits_show h e =
    let e₁ = every_rest _ _ e in
    let e₂ = every_rest _ _ e₁ in
    let e₃ = every_rest _ _ e₂ in
    let e₄ = every_rest _ _ e₃ in
    record {
      accepted = every_first _ _ e;
      rejected = every_first _ _ e₁;
      again = every_first _ _ e₂;
      rejected_too = every_first _ _ e₃;
      acceptance = every_first _ _ e₄;
    }

-- a field of at most fifteen digits, as the code has cut it
pub digits_part : (t s : List ℕ) (i n : ℕ) → t ≡ take n (drop i s) → n ≤ 15 → all_digits (take n (drop i s)) ≡ true → (length t ≤ 15) × (all_digits t ≡ true)
digits_part t s i n e h d = (omega (arith, ap length e, take_short n (drop i s)), ap all_digits e ∙ d)

-- ---- a listed line
pub record Listing (row : List ℕ) : Type 0 where
  pub first : col 1 row ≡ 49
  pub amount : all_digits (gross_amount row) ≡ true
  pub code : all_of DigitOrCapital (code_part row) ≡ true

pub listed_shows : (row : List ℕ) → listed_formed row ≡ true → Listing row
unfolding listed_formed
listed_shows row e =
    let e₁ = every_rest _ _ e in
    let e₂ = every_rest _ _ e₁ in
    record {
      first = eqb-true (col 1 row) 49 (every_first _ _ e);
      amount = every_first _ _ e₁;
      code = every_first _ _ e₂;
    }

module _ (tic : List ℕ) (n : ℕ) (l : Lined tic n) where
  pub lined_at : (k : ℕ) → k < n → Listing (row_at tic k)
  unfolding lines_formed listed_formed_at
  lined_at k h = listed_shows (row_at tic k) (all_at (listed_formed_at tic) n l.formed k h)

  -- eleven digits
  amount_small : (k : ℕ) → k < n → listed_amount tic k ≤ 99999999999
  unfolding listed_amount
  amount_small k h = gross_small (row_at tic k) (lined_at k h).amount

  -- at most 9,999 of them make a sum of fifteen digits
  pub sum_small : (k : ℕ) → k ≤ n → sum_below k (listed_amount tic) ≤ 99999999999 * k
  sum_small k h = sum_le (listed_amount tic) 99999999999 k (λ i m. amount_small i (omega arith))

-- ---- the footer
pub record Footing (f : List ℕ) : Type 0 where
  pub first : col 1 f ≡ 50
  pub accepted : all_digits (accepted_sum_field f) ≡ true
  pub rejected : all_digits (rejected_sum_field f) ≡ true
  pub filler : all_of (Only 48) (footer_filler f) ≡ true

pub footer_shows : (f : List ℕ) → footer_formed f ≡ true → Footing f
unfolding footer_formed
footer_shows f e =
    let e₁ = every_rest _ _ e in
    let e₂ = every_rest _ _ e₁ in
    let e₃ = every_rest _ _ e₂ in
    record {
      first = eqb-true (col 1 f) 50 (every_first _ _ e);
      accepted = every_first _ _ e₁;
      rejected = every_first _ _ e₂;
      filler = every_first _ _ e₃;
    }

-- a sound header's digits
pub sound_digits : (h : List ℕ) → header_sound h ≡ true → header_digits h ≡ true
unfolding header_sound
sound_digits h e = every_first _ _ (every_rest _ _ (every_rest _ _ e))

-- the answer for a file of n lines that is framed, from the rows behind the first
pub read_from : (tic : List ℕ) (n : ℕ) {r : Result TicValues TicFault} → framed_lines tic_layout tic ≡ Some n → Picks (drop 1 (read_rows tic n)) (Ok (values_of tic n)) r → r ≡ read_tic tic
unfolding read_tic
read_from tic n e p = rw e (picked (past refl p))

-- the answer for a file that is not
pub read_unframed : (tic : List ℕ) → framed_lines tic_layout tic ≡ None → Err Framing ≡ read_tic tic
unfolding read_tic
read_unframed tic e = rw e (picked (here refl))
