-- What the program prints: one line for each job. Assumes nothing.
use Rattle.std.specs.Prelude.{◌≡◌, cond, List, [], ◌∷◌, ◌++◌, ℕ, replicate}
use Rattle.tif.specs.Body.{gross_of}
use Rattle.verdicts.specs.declared.record.Record.{Record}
use Rattle.verdicts.specs.declared.verdict.Verdict.TheVariants.{Credits}
use Rattle.answers.specs.Answer.{Answer}
use Rattle.judge.specs.Call.{Call, call_of, answer_of, marks_of, out_of}
use Rattle.job_form.specs.Form.{is_job, body_of}
use Rattle.job_line.specs.Line.{answer_text}

-- ---- what is lent
abbrev pub records_lent : ℕ
records_lent = 128

unfoldable pub output_lent : List ℕ
output_lent = replicate 65536 0

-- the call of a job: name, moment, card, names, book, open debits, marks, TIF; no station table is lent
abbrev pub call_of_job : List ℕ → Call
call_of_job job = call_of (body_of job 0) (body_of job 1) (body_of job 2) (body_of job 3) (body_of job 4) (body_of job 5) (body_of job 6) (body_of job 7) [] records_lent output_lent

-- ---- the line
-- "J" for bytes that are no job
unfoldable pub text_of : List ℕ → List ℕ
text_of job = cond (is_job job) (answer_text (answer_of (call_of_job job))) (74 ∷ [])

-- the bytes that are printed for the bytes of a job
unfoldable pub printed_of : List ℕ → List ℕ
printed_of job = text_of job ++ (10 ∷ [])

-- ---- what the functions on the way there say
-- what a record holds before a line is written into it
abbrev pub blank_record : Record
blank_record = record { number = 0; gross = gross_of 0; verdict = Credits 0; net = record { 0 = 0 } }

-- a call judged with records that are given up afterwards
pub record JudgedLent (c : Call) (r : Answer) (marks' out' : List ℕ) : Type 0 where
  pub answer : r ≡ answer_of c
  pub marks_then : marks' ≡ marks_of c
  pub out_then : out' ≡ out_of c
