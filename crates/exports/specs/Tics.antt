-- What the exported functions over a TIC tell: an answer by its number, and values where there are any. Assumes nothing.
use Rattle.std.specs.Prelude.{◌≡◌, List, [], ◌∷◌, ℕ, length, Result, Ok, Err}
use Rattle.tic_parts.specs.Reading.{read_tic}
use Rattle.tic.specs.Listed.{listed_line, listed_number}
use Rattle.tic.specs.Rewriting.{rewritten_for, output_of}
use Rattle.tic_text.specs.declared.fault.TicFault.{TicFault}
use Rattle.tic_text.specs.declared.values.TicValues.{TicValues}
use Rattle.tic.specs.declared.listed.ListedPlace.{ListedPlace}
use Rattle.tic.specs.declared.listed.ListedFault.{ListedFault}
use Rattle.tic.specs.declared.rewriting.RewriteFault.{RewriteFault}
use Rattle.exports.specs.Numbers.{side_number, reading_number, rewriting_number}

-- ---- reading
-- acceptance, side, accepted, rejected, listed, accepted amount, rejected amount
abbrev pub values_told : TicValues → List ℕ
values_told v =
    v.head.acceptance
    ∷ side_number v.head.side
    ∷ v.head.accepted.0
    ∷ v.head.rejected.0
    ∷ v.listed
    ∷ v.sums.accepted.0
    ∷ v.sums.rejected.0
    ∷ []

-- the values afterwards: as they were where the TIC does not read
abbrev pub values_after : Result TicValues TicFault → List ℕ → List ℕ
values_after (Err fault) values = values
values_after (Ok v) values = values_told v

pub record TicRead (tic values : List ℕ) (r : ℕ) (values' : List ℕ) : Type 0 where
  pub answer : r ≡ reading_number (read_tic tic)
  pub values_then : values' ≡ values_after (read_tic tic) values

-- ---- a listed line
-- where the line and its code begin: as it was where there is no such line
abbrev pub place_after : Result ListedPlace ListedFault → List ℕ → List ℕ
place_after (Ok found) place = found.line ∷ found.code ∷ []
place_after (Err fault) place = place

pub record LineListed (tic : List ℕ) (k : ℕ) (place : List ℕ) (r : ℕ) (place' : List ℕ) : Type 0 where
  pub answer : r ≡ listed_number (listed_line tic k)
  pub place_then : place' ≡ place_after (listed_line tic k) place

-- ---- writing what was read
-- the length written: as it was where nothing is written
abbrev pub length_after : Result ℕ RewriteFault → List ℕ → List ℕ
length_after (Err fault) size = size
length_after (Ok n) size = n ∷ []

pub record TicRewritten (tic out size : List ℕ) (r : ℕ) (out' size' : List ℕ) : Type 0 where
  pub answer : r ≡ rewriting_number (rewritten_for tic (length out))
  pub out_then : out' ≡ output_of (rewritten_for tic (length out)) tic out
  pub length_then : size' ≡ length_after (rewritten_for tic (length out)) size
