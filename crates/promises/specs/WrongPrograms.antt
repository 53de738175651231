-- Wrong programs, each with a call on which the contract refuses it: always E7, always 00, writing nothing, invented counts. Assumes nothing.
use Rattle.std.specs.Prelude.{◌≡◌, refl, Bool, true, false, List, [], ◌∷◌, ℕ, length, get_or, replicate, Err, Ok}
use Rattle.std.proofs.Common.{sym, ap, ◌∙◌, true≢false, arith}
use Rattle.std.proofs.lemmas.Bool.{false≢true}
use Rattle.std.proofs.lemmas.List.{length-replicate}
use Rattle.lines.specs.Below.{all_below, some_below, first_below, table_below, sum_below}
use Rattle.lines.specs.Class.{is_digit, is_capital, is_of, byte_is, all_bytes, all_of}
use Rattle.lines.specs.FirstOf.{first_of}
use Rattle.lines.specs.Number.{value_below, all_digits, number_of, big_endian, digits_of}
use Rattle.lines.specs.Rows.{count_fits, framed_lines}
use Rattle.lines.specs.Same.{differ_at, first_difference, same}
use Rattle.lines.specs.Splice.{splice}
use Rattle.moment.specs.Calendar.{is_leap, days_in}
use Rattle.moment.specs.Moment.{date_fault, time_fault, check_date, check_moment, is_date, is_moment}
use Rattle.tif.specs.Acceptance.{acceptance_of}
use Rattle.tif.specs.Every.{every}
use Rattle.tif.specs.Name.{is_actor, is_sequence, is_file_stem, is_name}
use Rattle.tif.specs.Received.{names_whole, is_received}
use Rattle.tif.specs.Side.{side_of}
use Rattle.book.specs.Layout.{agreements, body_place}
use Rattle.book.specs.Form.{entries_sound, bodies_sound, head_sound, book_sound}
use Rattle.debits.specs.Form.{lines_sound, marks_sound, debits_sound}
use Rattle.verdicts.specs.declared.record.Record.{Record}
use Rattle.verdicts.specs.declared.verdict.Verdict.TheVariants.{NotCovered}
use Rattle.judging.specs.Judging.{words_of}
use Rattle.judging.specs.Sums.{count_of, total_of}
use Rattle.answers.specs.Told.{refused_file}
use Rattle.judge.specs.Call.{Call, words_judged, summary_of, answer_of, is_answered, marks_of, out_of, records_of, Judged}
use Rattle.tst.specs.Form.{is_lent, table_sound}
use Rattle.answers.specs.Card.{is_card}
use Rattle.answers.specs.Fault.{check_lent, check_call}
use Rattle.answers.specs.Answer.{Answer}
use Rattle.answers.specs.declared.answer.CallFault.TheVariants.{Room}
use Rattle.answers.specs.declared.answer.FileAnswer.{FileAnswer}
use Rattle.answers.specs.declared.answer.FileAnswer.TheVariants.{Accepted, PartlyAccepted, AlreadyReceived, CountsDiffer, TotalDiffers, OutOfForm}
use Rattle.promises.specs.Demand1.{answered_always}
use Rattle.promises.specs.WorkedCall.{worked_name, worked_card, worked_call}
use Rattle.promises.specs.WorkedFile.{worked_summary, record_with, worked_answer, worked_out}

-- ---- programs, as far as the contract sees them
-- what is there after a call: the answer, and what the marks, the records and the output hold then
pub record Result : Type 0 where
  pub answer : Answer
  pub marks : List ℕ
  pub records : List Record
  pub out : List ℕ

-- a result for each call, and for what the record table lent holds
abbrev pub Program : Type 0
Program = Call → List Record → Result

-- the table is as long as the call says; there is one for each call
abbrev pub Fits : Call → List Record → Type 0
Fits c records = length records ≡ c.room

pub some_table : (c : Call) → Fits c (replicate c.room (record_with 0 0 NotCovered 0))
some_table c = length-replicate c.room (record_with 0 0 NotCovered 0)

-- this holds of each result of the program
abbrev pub Always : Program → (Call → Result → Type 0) → Type 0
Always p holds = (c : Call) (records : List Record) → Fits c records → holds c (p c records)

-- the contract of the call allows the result
abbrev pub Allowed : Call → List Record → Result → Type 0
Allowed c records r = Judged c records r.answer r.marks r.records r.out

-- it does not allow what the program does on this call, whatever the table holds
abbrev pub RefusedOn : Program → Call → Type 0
RefusedOn p c = (records : List Record) → Fits c records → Allowed c records (p c records) → ⊥

-- it does not allow what the program does on both of these calls
abbrev pub RefusedOnOne : Program → Call → Call → Type 0
RefusedOnOne p a b = (first second : List Record) → Fits a first → Fits b second → Allowed a first (p a first) → Allowed b second (p b second) → ⊥

-- it does not refuse all: the definitions themselves are a program that it allows on every call
abbrev pub as_defined : Program
as_defined c records = record { answer = answer_of c; marks = marks_of c; records = records_of c records; out = out_of c }

pub not_all_refused : (c : Call) (records : List Record) → Allowed c records (as_defined c records)
not_all_refused = answered_always

-- ---- the worked call: three records, and room for its TIC
pub worked_is : answer_of worked_call ≡ Ok worked_summary
worked_is = worked_answer 3 (replicate 1136 0) (omega arith) (omega arith)

-- a second call beside it: an empty TIF, the smallest book, and room for a TIC without lines
abbrev pub empty_call : Call
empty_call = record {
  name = worked_name;
  received = digits_of 14 20260616020000;
  card = worked_card;
  names = [];
  book = 0 ∷ 0 ∷ [];
  debits = [];
  marks = [];
  tif = [];
  tst = [];
  room = 0;
  out = replicate 324 0;
}

-- it is answered 05
pub empty_answer : answer_of empty_call ≡ Ok (refused_file OutOfForm [])
unfolding answer_of summary_of words_judged words_of table_below count_of total_of sum_below acceptance_of framed_lines is_received side_of check_call check_lent is_lent table_sound first_of is_name is_file_stem every is_actor is_sequence all_digits number_of value_below big_endian all_of all_bytes all_below byte_is is_of is_digit is_capital same first_difference differ_at first_below some_below is_date check_date date_fault days_in is_leap is_moment check_moment time_fault is_card names_whole book_sound head_sound entries_sound bodies_sound agreements body_place debits_sound count_fits lines_sound marks_sound digits_of
empty_answer = refl

-- ---- always E7: refused on the worked call, which has room
pub always_e7 : (p : Program) → Always p (λ c r. r.answer ≡ Err Room) → RefusedOn p worked_call
always_e7 p e7 records fits j = false≢true (ap is_answered (sym (e7 worked_call records fits) ∙ j.answer ∙ worked_is))

-- ---- always 00: refused on the worked call, whose second line is L7
abbrev pub is00 : FileAnswer → Bool
is00 Accepted = true
is00 PartlyAccepted = false
is00 AlreadyReceived = false
is00 CountsDiffer = false
is00 TotalDiffers = false
is00 OutOfForm = false

abbrev pub gives00 : Answer → Bool
gives00 (Err fault) = false
gives00 (Ok s) = is00 s.answer

-- with whatever figures beside it
pub always_00 : (p : Program) → Always p (λ c r. gives00 r.answer ≡ true) → RefusedOn p worked_call
always_00 p accepts records fits j = true≢false (sym (accepts worked_call records fits) ∙ ap gives00 (j.answer ∙ worked_is))

-- ---- writing nothing: refused on the worked call, whose output of zeros has the TIC afterwards, "0" first
pub writing_nothing : (p : Program) → Always p (λ c r. r.out ≡ c.out) → RefusedOn p worked_call
unfolding splice
writing_nothing p keeps records fits j =
    let first : ◌≡◌ {A = ℕ} 0 48 = ap (λ (out : List ℕ). get_or out 0 0) (sym (keeps worked_call records fits) ∙ j.out_then ∙ worked_out 3 (replicate 1136 0) (omega arith) (omega arith)) in
    absurd (omega arith)

-- ---- invented counts
-- the six numbers that are told: lines, accepted, refused, total, accepted amount, refused amount; none with an E
abbrev pub numbers_told : Answer → List ℕ
numbers_told (Err fault) = []
numbers_told (Ok s) = s.lines ∷ s.accepted ∷ s.refused ∷ s.total.0 ∷ s.accepted_amount.0 ∷ s.refused_amount.0 ∷ []

-- on any call, numbers other than those of the definitions are refused
pub invented_counts : (p : Program) (c : Call) → ((records : List Record) → Fits c records → numbers_told (p c records).answer ≡ numbers_told (answer_of c) → ⊥) → RefusedOn p c
invented_counts p c other records fits j = other records fits (ap numbers_told j.answer)

-- so on the worked call, all but 3, 2, 1, 17850, 5300, 12550
pub invented_worked : (p : Program) → ((records : List Record) → Fits worked_call records → numbers_told (p worked_call records).answer ≡ 3 ∷ 2 ∷ 1 ∷ 17850 ∷ 5300 ∷ 12550 ∷ [] → ⊥) → RefusedOn p worked_call
invented_worked p other records fits j = other records fits (ap numbers_told (j.answer ∙ worked_is))

-- how many are accepted and how many refused
abbrev pub counts_told : Answer → List ℕ
counts_told (Err fault) = []
counts_told (Ok s) = s.accepted ∷ s.refused ∷ []

-- the same counts for every file, whichever they are: refused on the worked call, which has 2 and 1, or on the empty one, which has 0 and 0
pub fixed_counts : (p : Program) (counts : List ℕ) → Always p (λ c r. counts_told r.answer ≡ counts) → RefusedOnOne p worked_call empty_call
fixed_counts p counts fixed first second fits fits_then j k =
    let two : counts ≡ 2 ∷ 1 ∷ [] = sym (fixed worked_call first fits) ∙ ap counts_told (j.answer ∙ worked_is) in
    let none : counts ≡ 0 ∷ 0 ∷ [] = sym (fixed empty_call second fits_then) ∙ ap counts_told (k.answer ∙ empty_answer) in
    let clash : ◌≡◌ {A = ℕ} 2 0 = ap (λ (l : List ℕ). get_or l 0 0) (sym two ∙ none) in
    absurd (omega arith)
