-- The laws of what is printed: how long it is, and that of the output only its length decides. Assumes nothing.
use Rattle.std.specs.Prelude.{◌≡◌, refl, Bool, true, false, cond, List, [], ◌∷◌, ℕ, ◌-◌, ◌≤◌, length, take, drop}
use Rattle.std.proofs.Common.{sym, ap, ◌∙◌, arith, length-append, take_at}
use Rattle.std.proofs.Math.Nat.{sub-zero}
use Rattle.std.proofs.lemmas.List.{length-replicate}
use Rattle.lines.specs.Splice.{Put}
use Rattle.lines.specs.SpliceLaws.{splice_zero}
use Rattle.verdicts.specs.declared.record.Record.{Record}
use Rattle.answers.specs.Answer.{Answer}
use Rattle.judge.specs.Call.{call_of, check_of, summary_of, words_judged, answer_for, answer_sound, answer_of, marks_of, out_of, Judged}
use Rattle.job_form.specs.Form.{is_job}
use Rattle.job_line.specs.Line.{answer_text}
use Rattle.job_line.specs.LineLaws.{answer_length}
use Rattle.job.specs.Printed.{records_lent, output_lent, call_of_job, JudgedLent, text_of, printed_of}

-- ---- how long the texts are
pub text_length : (job : List ℕ) → length (text_of job) ≤ 132
unfolding text_of
text_length job = go (is_job job)
  where
    go : (b : Bool) → length (cond b (answer_text (answer_of (call_of_job job))) (74 ∷ [])) ≤ 132
    go true = answer_length (answer_of (call_of_job job))
    go false = omega arith

pub printed_length : (job : List ℕ) → length (printed_of job) ≤ 133
unfolding printed_of
printed_length job = omega (arith, length-append (text_of job) (10 ∷ []), text_length job)

-- ---- the output, and the copy of the marks
output_length : length output_lent ≡ 65536
unfolding output_lent
output_length = length-replicate {A = ℕ} 65536 0

-- of the output lent only its length decides on the answer
answer_by_length : (name received card names book debits marks tif tst : List ℕ) (room : ℕ) (out out' : List ℕ) → length out ≡ length out'
    → answer_of (call_of name received card names book debits marks tif tst room out) ≡ answer_of (call_of name received card names book debits marks tif tst room out')
unfolding answer_of summary_of words_judged
answer_by_length name received card names book debits marks tif tst room out out' e =
    let c = call_of name received card names book debits marks tif tst room out in
    ap (λ (n : ℕ). answer_for (check_of c) (answer_sound (summary_of c) room n)) e

-- the front of the copy is the marks
copied : (copy copy' marks : List ℕ) (r : ℕ) → Put marks 0 copy r copy' → take (length marks - 0) copy' ≡ marks
copied copy copy' marks r p = rw (sub-zero (length marks), p.spliced, splice_zero copy marks) (take_at marks (drop (length marks) copy) (length marks) refl)

-- a call judged with the marks in a copy
pub answer_on_copy : (name received card names book debits marks tif tst copy copy' out : List ℕ) (r : ℕ) → Put marks 0 copy r copy' → length out ≡ 65536
    → answer_of (call_of name received card names book debits (take (length marks - 0) copy') tif tst records_lent out) ≡ answer_of (call_of name received card names book debits marks tif tst records_lent output_lent)
answer_on_copy name received card names book debits marks tif tst copy copy' out r p e =
    ap (λ (ms : List ℕ). answer_of (call_of name received card names book debits ms tif tst records_lent out)) (copied copy copy' marks r p)
    ∙ answer_by_length name received card names book debits marks tif tst records_lent out output_lent (e ∙ sym output_length)

-- ---- the records
-- a call judged with a table of so many records
pub lent_from_judged : (name received card names book debits marks tif tst out : List ℕ) (room : ℕ) → room ≡ records_lent → (ys : List Record) (r : Answer) (ms : List ℕ) (rs : List Record) (os : List ℕ)
    → Judged (call_of name received card names book debits marks tif tst room out) ys r ms rs os → JudgedLent (call_of name received card names book debits marks tif tst records_lent out) r ms os
lent_from_judged name received card names book debits marks tif tst out room e ys r ms rs os j =
    record {
      answer = j.answer ∙ ap (λ (n : ℕ). answer_of (call_of name received card names book debits marks tif tst n out)) e;
      marks_then = j.marks_then ∙ ap (λ (n : ℕ). marks_of (call_of name received card names book debits marks tif tst n out)) e;
      out_then = j.out_then ∙ ap (λ (n : ℕ). out_of (call_of name received card names book debits marks tif tst n out)) e;
    }
