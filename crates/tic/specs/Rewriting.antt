-- Writing what was read: the same rendering, of the values read; E7 and nothing written into too short an output. Assumes nothing.
use Rattle.std.specs.Prelude.{◌≡◌, cond, List, [], ◌∷◌, ℕ, ◌+◌, ◌*◌, ◌≤◌, length, ltb, Result, Ok, Err}
use Rattle.lines.specs.Rows.{file_length}
use Rattle.lines.specs.Splice.{splice}
use Rattle.tic_text.specs.Columns.{tic_layout, tif_receiver, received_stem, reception_moment, shown_part, code_part}
use Rattle.tic_parts.specs.Reading.{tic_header, tic_footer, tic_lines, row_at, head_of, sums_of, read_tic}
use Rattle.tic_text.specs.Fault.{fault_text}
use Rattle.tic_text.specs.Text.{Tic, tic_text}
use Rattle.tic.specs.declared.rewriting.RewriteFault.{RewriteFault}
use Rattle.tic.specs.declared.rewriting.RewriteFault.TheVariants.{Unreadable, TooShort}
use Rattle.tic_text.specs.declared.fault.TicFault.{TicFault}
use Rattle.tic_text.specs.declared.values.TicValues.{TicValues}

-- what reading takes from a TIC
unfoldable pub line_read : List ℕ → ℕ → List ℕ
line_read tic k = shown_part (row_at tic k)

unfoldable pub code_read : List ℕ → ℕ → List ℕ
code_read tic k = code_part (row_at tic k)

abbrev pub tic_of : List ℕ → Tic
tic_of tic =
    record {
      receiver = tif_receiver (tic_header tic);
      stem = received_stem (tic_header tic);
      moment = reception_moment (tic_header tic);
      head = head_of (tic_header tic);
      line = line_read tic;
      code = code_read tic;
      sums = sums_of (tic_footer tic (tic_lines tic));
    }

-- how long a TIC of n listed lines is
abbrev pub tic_length : ℕ → ℕ
tic_length n = file_length tic_layout n

-- ---- the answer, for an output of so many bytes
abbrev pub written_in : Result TicValues TicFault → ℕ → Result ℕ RewriteFault
written_in (Err fault) room = Err (Unreadable fault)
written_in (Ok v) room = cond (ltb room (tic_length v.listed)) (Err TooShort) (Ok (tic_length v.listed))

unfoldable pub rewritten_for : List ℕ → ℕ → Result ℕ RewriteFault
rewritten_for tic room = written_in (read_tic tic) room

-- the paper's text of each answer: T1 to T5, E7, and none for a TIC that was written
abbrev pub refusal_text : Result ℕ RewriteFault → List ℕ
refusal_text (Err (Unreadable fault)) = fault_text fault
refusal_text (Err TooShort) = 69 ∷ 55 ∷ []
refusal_text (Ok n) = []

-- ---- the output afterwards: the TIC's text at its start, and past it what was there; or all of it as it was
abbrev pub output_of : Result ℕ RewriteFault → List ℕ → List ℕ → List ℕ
output_of (Err fault) tic out = out
output_of (Ok n) tic out = splice out 0 (tic_text (tic_of tic))

pub record Rewrites (tic out : List ℕ) (r : Result ℕ RewriteFault) (out' : List ℕ) : Type 0 where
  pub answer : r ≡ rewritten_for tic (length out)
  pub output : out' ≡ output_of (rewritten_for tic (length out)) tic out

-- ---- what the steps ask for
pub record RowRoom (row : List ℕ) (at : ℕ) (out : List ℕ) : Type 0 where
  pub long : length row ≡ 812
  pub room : at + 812 ≤ length out

pub record LinesRoom (tic : List ℕ) (n from : ℕ) (out : List ℕ) : Type 0 where
  pub within : file_length tic_layout n ≤ length tic
  pub room : from + n * 812 ≤ length out

pub record WholeRoom (tic : List ℕ) (v : TicValues) (out : List ℕ) : Type 0 where
  pub reads : read_tic tic ≡ Ok v
  pub room : tic_length v.listed ≤ length out
