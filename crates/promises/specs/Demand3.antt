-- Demand 3, for whole calls. What a call leaves is whatever the contract of `judge` allows: `Judged c records r marks' records' out'`, with the call c
-- and the records lent, the answer r, and the marks, records and output afterwards. Lines and places of debits are counted from 0 here, the number
-- of a debit in a record from 1. The two statements for one call come first, each in words and then as a type: 1 is proved by `credits_decided` and 2 by
-- `marks_follow_records`, below them. Those over sequences of calls are in Demand3Sequence. Assumes nothing.
use Rattle.std.specs.Prelude.{◌≡◌, refl, Bool, true, List, [], ℕ, ◌+◌, ◌-◌, ◌≤◌, ◌<◌, length, get_or, Err, Ok}
use Rattle.std.proofs.Common.{sym, ap, ◌∙◌, arith}
use Rattle.tif.specs.Acceptance.{Acceptance}
use Rattle.tif.specs.Body.{line_at}
use Rattle.tif.specs.Name.{name_sender}
use Rattle.tif.specs.Side.{side_of}
use Rattle.tif.specs.declared.acceptance.Whole.{Whole}
use Rattle.tif.specs.declared.side.Side.{Side}
use Rattle.tif.specs.declared.side.Side.TheVariants.{Credit, Debit}
use Rattle.debits.specs.Assignment.{Assigned, Exactly}
use Rattle.debits.specs.Credits.{credit_accepted, place_at}
use Rattle.debits.specs.CreditsLaws.{after_zero, after_length}
use Rattle.debits.proofs.Demand3.{demand_3, demand_3_accepted}
use Rattle.debits.proofs.Demand3Laws.{accepted_or_refused}
use Rattle.debits.specs.Taking.{agrees, took_debit}
use Rattle.verdicts.specs.LineTests.{test_line}
use Rattle.verdicts.specs.Record.{record_of}
use Rattle.verdicts.specs.declared.record.Record.{Record}
use Rattle.verdicts.specs.declared.verdict.Verdict.{Verdict}
use Rattle.verdicts.specs.declared.verdict.Verdict.TheVariants.{Credits, WrongType, NoDebit}
use Rattle.judging.specs.Judging.{Judging, known_on, reaches_at, marks_before, verdict_at}
use Rattle.judging.specs.Marks.{debit_of, debit_file_keeps}
use Rattle.judge.specs.Call.{Call, file_of, judging_of, lines_of, lines_to_judge, lines_to_record, answer_of, Judged}
use Rattle.answers.specs.Answer.{Answer}
use Rattle.answers.specs.declared.answer.Summary.{Summary}
use Rattle.promises.specs.Demand3Laws.{reaches_is, accepted_reaches, refused_reaches, accepted_verdict, refused_verdict, carrying, taking_is, marked_then, unmarked_first, unchanged}
use Rattle.promises.specs.LeftLaws.{answered_lines, verdict_recorded, marks_left}

-- ---- 1. A credit that passes the other checks is refused as unmatched exactly if no assignment gives it, and each credit accepted before it in that
-- file, a separate agreeing debit that was uncredited at the start.

-- the verdict in the record of line k; a place with no record has one that neither credits a debit nor is L8
abbrev pub verdict_in : List Record → ℕ → Verdict
verdict_in records k = (get_or records k (record_of [] 0 WrongType)).verdict

-- the verdict is an acceptance that carries a debit
abbrev pub credits_debit : Verdict → Bool
credits_debit verdict = took_debit (debit_of verdict)

-- line k is a credit that passes the other checks: the file is judged line by line, is CRE and has that line, and L1 to L5 and L9 let it pass (L6 and L7 are
-- for DEB)
pub record PassesOthers (c : Call) (k : ℕ) : Type 0 where
  pub whole : Whole
  pub line_by_line : file_of c ≡ Ok whole
  pub there : k < whole.lines
  pub credit : side_of c.tif ≡ Credit
  pub passing : test_line Credit (name_sender c.name) (known_on (judging_of c) k) (line_at c.tif k) ≡ Ok tt

-- an assignment gives line k, and each credit accepted before it in the call's file, a separate agreeing debit of those lent, unmarked when lent
abbrev pub AssignedIn : Call → ℕ → Type 0
AssignedIn c k = Assigned c.debits (line_at c.tif) (reaches_at (judging_of c)) c.marks k

-- the credits accepted before it, as the assignment has them
abbrev pub accepted_in : Call → ℕ → Bool
accepted_in c i = credit_accepted c.debits (line_at c.tif) (reaches_at (judging_of c)) c.marks i

-- what the record of such a line says, in a file of which so many lines are told
pub record Decided (c : Call) (lines : ℕ) (records' : List Record) (k : ℕ) : Type 0 where
  -- it is L8 exactly if there is no such assignment,
  pub refused : Exactly (verdict_in records' k ≡ NoDebit) (AssignedIn c k → ⊥)
  -- and it carries a debit exactly if there is one,
  pub accepted : Exactly (credits_debit (verdict_in records' k) ≡ true) (AssignedIn c k)
  -- where the credits accepted before it are those whose records carry a debit
  pub earlier : (i : ℕ) → i < k → accepted_in c i ≡ credits_debit (verdict_in records' i)
  -- the line is among those told
  pub told : k < lines

abbrev pub CreditsDecided : Type 0
CreditsDecided = (c : Call) (records : List Record) (s : Summary) (marks' : List ℕ) (records' : List Record) (out' : List ℕ)
    → Judged c records (Ok s) marks' records' out' → (k : ℕ) → PassesOthers c k → Decided c s.lines records' k

-- ---- 2. After a call with any answer the marks differ from those before at the debits that the records carry, and only there; a record carries a
-- debit, or L8, only for a credit that passes the other checks.

-- line k credits the debit of this number
pub record Credited (c : Call) (marks' : List ℕ) (k debit : ℕ) : Type 0 where
  pub passes : PassesOthers c k
  pub counted : 0 < debit
  pub there : debit ≤ length c.marks
  pub agreeing : agrees c.debits (line_at c.tif k) (debit - 1) ≡ true
  pub unmarked_before : get_or c.marks (debit - 1) 0 ≡ 0
  pub marked_after : get_or marks' (debit - 1) 0 ≡ 1

-- the lines recorded are those of a file with 00 or 01; with E1 to E8 and 02 to 05 there is none
pub record MarksFollow (c : Call) (r : Answer) (marks' : List ℕ) (records' : List Record) : Type 0 where
  -- a record that carries a debit, and one with L8
  pub credited : (k debit : ℕ) → k < lines_to_record r → verdict_in records' k ≡ Credits debit → Credited c marks' k debit
  pub unmatched : (k : ℕ) → k < lines_to_record r → verdict_in records' k ≡ NoDebit → PassesOthers c k
  -- every mark that no record carries is as before: all of them, where no line is recorded and in a DEB file
  pub others : (place : ℕ) → ((k : ℕ) → k < lines_to_record r → verdict_in records' k ≡ Credits (place + 1) → ⊥) → get_or marks' place 0 ≡ get_or c.marks place 0
  pub long : length marks' ≡ length c.marks
  pub no_line : lines_to_record r ≡ 0 → marks' ≡ c.marks
  pub debit_file : side_of c.tif ≡ Debit → marks' ≡ c.marks

abbrev pub MarksFollowRecords : Type 0
MarksFollowRecords = (c : Call) (records : List Record) (r : Answer) (marks' : List ℕ) (records' : List Record) (out' : List ℕ)
    → Judged c records r marks' records' out' → MarksFollow c r marks' records'

-- ---- the proofs
passes_reaching : (c : Call) (k : ℕ) → k < lines_to_record (answer_of c) → reaches_at (judging_of c) k ≡ true → PassesOthers c k
passes_reaching c k h reach = go (answer_of c) refl
  where
    file : k < lines_of c → (a : Acceptance) → file_of c ≡ a → PassesOthers c k
    file l (Ok w) e =
        let n : lines_of c ≡ w.lines = ap lines_to_judge e in
        let t = reaches_is (judging_of c) c.marks k reach in
        record { whole = w; line_by_line = e; there = omega (arith, l, n); credit = t.0; passing = ap (λ (s : Side). test_line s (name_sender c.name) (known_on (judging_of c) k) (line_at c.tif k)) (sym t.0) ∙ t.1 }
    file l (Err f) e = let n : lines_of c ≡ 0 = ap lines_to_judge e in absurd (omega (arith, l, n))

    go : (a : Answer) → answer_of c ≡ a → PassesOthers c k
    go (Err f) e = let z : lines_to_record (answer_of c) ≡ 0 = ap lines_to_record e in absurd (omega (arith, h, z))
    go (Ok s) e = let z : lines_to_record (answer_of c) ≡ lines_of c = ap lines_to_record e ∙ answered_lines c s e in file (omega (arith, h, z)) (file_of c) refl

reaches_passing : (c : Call) (k : ℕ) → PassesOthers c k → reaches_at (judging_of c) k ≡ true
unfolding reaches_at
reaches_passing c k p = rw (p.credit, p.passing)

module _ (c : Call) (records : List Record) (r : Answer) (marks' : List ℕ) (records' : List Record) (out' : List ℕ) (left : Judged c records r marks' records' out') where
  abbrev j : Judging
  j = judging_of c

  lines_left : lines_to_record r ≡ lines_to_record (answer_of c)
  lines_left = ap lines_to_record left.answer

  -- the records hold the verdicts, and the marks are those after the lines
  pub verdict_left : (k : ℕ) → k < lines_to_record r → verdict_in records' k ≡ verdict_at j c.marks k
  verdict_left k h = ap (λ (rs : List Record). verdict_in rs k) left.records_then ∙ verdict_recorded c records (record_of [] 0 WrongType) k (omega (arith, h, lines_left))

  pub marks_then_lem : marks' ≡ marks_before j c.marks (lines_to_record r)
  marks_then_lem = left.marks_then ∙ marks_left c ∙ ap (λ (a : Answer). marks_before j c.marks (lines_to_record a)) (sym left.answer)

  -- 1.
  decided : (k : ℕ) → k < lines_to_record r → PassesOthers c k → Decided c (lines_to_record r) records' k
  decided k h p =
      let reach = reaches_passing c k p in
      let three = demand_3 c.debits (line_at c.tif) (reaches_at j) c.marks k reach in
      let says = refused_verdict j c.marks k in
      let took : accepted_in c k ≡ credits_debit (verdict_in records' k) = accepted_verdict j c.marks k ∙ ap credits_debit (sym (verdict_left k h)) in
      record {
        refused = record { only = λ n. three.only (says.only (sym (verdict_left k h) ∙ n)); whenever = λ none. verdict_left k h ∙ says.whenever (three.whenever none) };
        accepted = record {
          only = λ a. demand_3_accepted c.debits (line_at c.tif) (reaches_at j) c.marks k (took ∙ a);
          whenever = λ a. accepted_or_refused c.debits (line_at c.tif) (reaches_at j) c.marks k reach (λ t. sym took ∙ t) (λ f. absurd (three.only f a));
        };
        earlier = λ i l. accepted_verdict j c.marks i ∙ ap credits_debit (sym (verdict_left i (omega (arith, h, l))));
        told = h;
      }

  -- 2.
  credited_line : (k debit : ℕ) → k < lines_to_record r → verdict_in records' k ≡ Credits debit → Credited c marks' k debit
  credited_line k debit h e =
      let t = carrying j c.marks k debit (sym (verdict_left k h) ∙ e) in
      let took = taking_is j c.marks k t.0 in
      let d : debit - 1 ≡ place_at c.debits (line_at c.tif) (reaches_at j) c.marks k = omega (arith, t.1) in
      record {
        passes = passes_reaching c k (omega (arith, h, lines_left)) (accepted_reaches j c.marks k t.0);
        counted = omega (arith, t.1);
        there = omega (arith, t.1, took.within);
        agreeing = rw d took.agreeing;
        unmarked_before = rw d (unmarked_first j c.marks k t.0);
        marked_after = rw (d, marks_then_lem) (marked_then j c.marks (lines_to_record r) k h t.0);
      }

  follow : MarksFollow c r marks' records'
  follow =
      record {
        credited = credited_line;
        unmatched = λ k h e.
            passes_reaching c k (omega (arith, h, lines_left)) (refused_reaches j c.marks k ((refused_verdict j c.marks k).only (sym (verdict_left k h) ∙ e)));
        others = λ place none. rw marks_then_lem (unchanged j c.marks (lines_to_record r) place (λ k h e. none k h (verdict_left k h ∙ e)));
        long = rw marks_then_lem (after_length c.debits (line_at c.tif) (reaches_at j) c.marks (lines_to_record r));
        no_line = λ z. marks_then_lem ∙ ap (marks_before j c.marks) z ∙ after_zero c.debits (line_at c.tif) (reaches_at j) c.marks;
        debit_file = λ e. marks_then_lem ∙ debit_file_keeps j c.marks e (lines_to_record r);
      }

pub credits_decided : CreditsDecided
credits_decided c records s marks' records' out' left k p =
    let lines : s.lines ≡ p.whole.lines = answered_lines c s (sym left.answer) ∙ ap lines_to_judge p.line_by_line in
    decided c records (Ok s) marks' records' out' left k (omega (arith, p.there, lines)) p

pub marks_follow_records : MarksFollowRecords
marks_follow_records = follow
