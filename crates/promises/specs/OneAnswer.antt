-- Two results that a contract allows are equal: for the same input the same answer, and the same contents afterwards of everything lent for writing.
-- One theorem for each form of contract; docs/ONE_ANSWER.md names the theorem of each public function. None asks for what a function requires.
-- What is lent for reading only stays as it is, by its type. Assumes nothing.
use Rattle.std.specs.Prelude.{◌≡◌, List, ℕ, Result, Option}
use Rattle.std.proofs.Common.{sym, ap, ◌∙◌}
use Rattle.std.specs.Borrow.{Bor}
use Rattle.lines.specs.Number.{BigEndian}
use Rattle.lines.specs.Splice.{Put}
use Rattle.lines.specs.declared.kinds.Gross.{Gross}
use Rattle.tif.specs.declared.reader.Reader.{Reader}
use Rattle.debits.specs.Taking.{Took, marks_then}
use Rattle.verdicts.specs.declared.record.Record.{Record}
use Rattle.verdicts.specs.declared.verdict.Verdict.{Verdict}
use Rattle.judging.specs.Judging.{Judging}
use Rattle.judging.specs.Steps.{Judged as LineJudged, AllJudged}
use Rattle.tic.specs.Rewriting.{Rewrites}
use Rattle.tic.specs.declared.rewriting.RewriteFault.{RewriteFault}
use Rattle.judge.specs.Call.{Call, WordsJudged, Judged}
use Rattle.answers.specs.Answer.{Answer}

-- ---- the answer alone, nothing being lent for writing
-- a contract `r ≡ definition`: that of most functions
pub one_value : {A : Type 0} {d r r₂ : A} → r ≡ d → r₂ ≡ d → r ≡ r₂
one_value e e₂ = e ∙ sym e₂

-- a contract `now r ≡ definition`, of a part that is shown: its bytes, and so its length
pub one_part : {A : Type 0} {d : List A} (r r₂ : Bor (List A)) → r.now ≡ d → r₂.now ≡ d → r.now ≡ r₂.now
one_part r r₂ e e₂ = one_value e e₂

-- an amount with VAT, by its number
pub one_gross : {d : ℕ} {r r₂ : Gross} → r.0 ≡ d → r₂.0 ≡ d → r ≡ r₂
one_gross e e₂ = ap (λ (amount : ℕ). record { 0 = amount }) (one_value e e₂)

-- a reader, by its file and its place: the file is the very slice that was lent, not one with the same bytes
pub one_reader : {file : Bor (List ℕ)} {at : ℕ} {r r₂ : Reader} → (r.file ≡ file) × (r.at ≡ at) → (r₂.file ≡ file) × (r₂.at ≡ at) → r ≡ r₂
one_reader {r = r} {r₂ = r₂} a b =
    ap (λ (f : Bor (List ℕ)). record { file = f; at = r.at }) (one_value a.0 b.0)
    ∙ ap (λ (place : ℕ). record { file = r₂.file; at = place }) (one_value a.1 b.1)

-- a big-endian number
pub one_big_endian : {s : List ℕ} {r r₂ : ℕ} → BigEndian s r → BigEndian s r₂ → r ≡ r₂
one_big_endian a b = one_value a.value b.value

-- ---- the answer, and what is lent for writing
-- a text put into a buffer: the place after it, and the whole buffer
pub one_put : {text : List ℕ} {at : ℕ} {out : List ℕ} {r r₂ : ℕ} {out' out₂' : List ℕ}
    → Put text at out r out' → Put text at out r₂ out₂' → (r ≡ r₂) × (out' ≡ out₂')
one_put a b = (one_value a.place b.place, one_value a.spliced b.spliced)

-- a debit taken: which one, and every mark
pub one_taking : {debits marks credit : List ℕ} {r r₂ : Option ℕ} {marks' marks₂' : List ℕ}
    → Took debits marks credit r marks' → Took debits marks credit r₂ marks₂' → (r ≡ r₂) × (marks' ≡ marks₂')
one_taking {marks = marks} a b =
    let same = one_value a.answer b.answer in
    (same, a.marked ∙ ap (marks_then marks) same ∙ sym b.marked)

-- a line judged: its verdict, and every mark
pub one_line : {j : Judging} {marks : List ℕ} {k : ℕ} {r r₂ : Verdict} {marks' marks₂' : List ℕ}
    → LineJudged j marks k r marks' → LineJudged j marks k r₂ marks₂' → (r ≡ r₂) × (marks' ≡ marks₂')
one_line a b = (one_value a.verdict b.verdict, one_value a.marked b.marked)

-- the lines of a file judged: every mark, and every word
pub one_judging : {j : Judging} {n : ℕ} {marks : List ℕ} {marks' marks₂' words' words₂' : List ℕ}
    → AllJudged j n marks marks' words' → AllJudged j n marks marks₂' words₂' → (marks' ≡ marks₂') × (words' ≡ words₂')
one_judging a b = (one_value a.marked b.marked, one_value a.worded b.worded)

-- a TIC written again: T1 to T5, E7 or its length, and the whole output
pub one_rewriting : {tic out : List ℕ} {r r₂ : Result ℕ RewriteFault} {out' out₂' : List ℕ}
    → Rewrites tic out r out' → Rewrites tic out r₂ out₂' → (r ≡ r₂) × (out' ≡ out₂')
one_rewriting a b = (one_value a.answer b.answer, one_value a.output b.output)

-- ---- the call
-- the core: the answer, every mark, every word and the whole output
pub one_call_in_words : {c : Call} {words : List ℕ} {r r₂ : Answer} {marks' marks₂' words' words₂' out' out₂' : List ℕ}
    → WordsJudged c words r marks' words' out' → WordsJudged c words r₂ marks₂' words₂' out₂'
    → (r ≡ r₂) × (marks' ≡ marks₂') × (words' ≡ words₂') × (out' ≡ out₂')
one_call_in_words a b =
    (one_value a.answer b.answer, one_value a.marks_then b.marks_then, one_value a.words_then b.words_then, one_value a.out_then b.out_then)

-- the public call: the answer, every mark, every record and the whole output, E1 to E8 and 00 to 05 alike
pub one_call : {c : Call} {records : List Record} {r r₂ : Answer} {marks' marks₂' : List ℕ} {records' records₂' : List Record} {out' out₂' : List ℕ}
    → Judged c records r marks' records' out' → Judged c records r₂ marks₂' records₂' out₂'
    → (r ≡ r₂) × (marks' ≡ marks₂') × (records' ≡ records₂') × (out' ≡ out₂')
one_call a b =
    (one_value a.answer b.answer, one_value a.marks_then b.marks_then, one_value a.records_then b.records_then, one_value a.out_then b.out_then)
