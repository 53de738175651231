-- Demand 3, over sequences of calls: files of either side and answers of every kind among them. What each call leaves is whatever the contract of
-- `judge` allows. Places of debits are counted from 0. The statements come first, each in words and then as a type: 3 is proved by
-- `none_credited_twice`, 4 by `none_credited_twice_by_events`, 5 by `not_copied`, below them. Assumes nothing.
use Rattle.std.specs.Prelude.{◌≡◌, Bool, ◌||◌, length, replicate, eqb, Option, Some, None}
use Rattle.std.proofs.Math.Path.{refl, ap}
use Rattle.std.proofs.Common.{sym, ◌∙◌, true≢false, get_or-set_same, get_or-set_other, eqb-true}
use Rattle.std.proofs.Math.Bool.{true, false, cond}
use mathlib.Core.List.{List, [], ◌∷◌, ◌++◌}
use Prim.Native.Nat.{ℕ, zero, suc, ◌+◌, ◌-◌, ◌<◌}
use native.Mathlib.Omega.{arith}
use Rattle.std.proofs.Math.ListN.{get_or}
use Rattle.std.proofs.lemmas.Bool.{eqb-false}
use Rattle.lines.specs.Below.{join_below}
use Rattle.lines.specs.BelowSame.{join_same}
use Rattle.tif.specs.Body.{line_at}
use Rattle.debits.specs.Credits.{marks_after, place_at, credit_accepted}
use Rattle.debits.specs.CreditsLaws.{skipped_is, after_length}
use Rattle.debits.proofs.AcceptedLaws.{accepted_is}
use Rattle.debits.specs.Sequence.{Open, Step, judged, added, open_after, place_if_taken, places_of, places_taken, NoneTwice}
use Rattle.debits.proofs.SequenceLaws.{none_taken_twice}
use Rattle.debits.specs.Taking.{took_debit}
use Rattle.verdicts.specs.declared.record.Record.{Record}
use Rattle.verdicts.specs.declared.verdict.Verdict.{Verdict}
use Rattle.verdicts.specs.declared.verdict.Verdict.TheVariants.{Credits}
use Rattle.judging.specs.Judging.{reaches_at, verdict_at}
use Rattle.judging.specs.Marks.{debit_of}
use Rattle.judge.specs.Call.{Call, call_of, judging_of, lines_to_record, answer_of, marks_of, out_of, records_of, Judged}
use Rattle.answers.specs.Answer.{Answer}
use Rattle.promises.specs.Demand3.{verdict_in, marks_follow_records, verdict_left, marks_then_lem}
use Rattle.promises.specs.Demand3Laws.{accepted_verdict, carried_number}

-- ---- 3. Over sequences of calls that begin with no debit credited, hand the marks on and only add uncredited debits at the end, no debit is credited
-- twice; and the debits marked at the end are those that were credited.

-- the place of the debit that was taken
abbrev pub place_of_taken : Option ℕ → List ℕ
place_of_taken (Some debit) = (debit - 1) ∷ []
place_of_taken None = []

-- the place of the debit that the record of line k carries
unfoldable pub place_in : List Record → ℕ → List ℕ
place_in records k = place_of_taken (debit_of (verdict_in records k))

-- the places of the debits that a call credits, in file order: those that the records of its lines carry. An answer E1 to E8 or 02 to 05 has no line
unfoldable pub places_in : Answer → List Record → List ℕ
places_in r records = join_below (lines_to_record r) (place_in records)

-- a sequence, with the open debits and marks at its beginning, the places that it credits, and the open debits and marks at its end: it ends; a call
-- is made on the debits and marks, whatever else is lent and whatever it answers, and hands on the marks that it leaves; or debits are added at the end,
-- none of them marked
pub data Sequence : Open → List ℕ → Open → Type 0 where
  ends : {o : Open} → Sequence o [] o
  calls : {places : List ℕ} {end : Open} (c : Call) (records : List Record) (r : Answer) (marks' : List ℕ) (records' : List Record) (out' : List ℕ)
      → Judged c records r marks' records' out' → Sequence (record { debits = c.debits; marks = marks' }) places end
      → Sequence (record { debits = c.debits; marks = c.marks }) (places_in r records' ++ places) end
  adds : {o end : Open} {places : List ℕ} (new : List ℕ) (count : ℕ) → Sequence (open_after (added new count) o) places end → Sequence o places end

-- the place is one of these
unfoldable pub is_among : ℕ → List ℕ → Bool
is_among place [] = false
is_among place (other ∷ places) = eqb place other || is_among place places

-- no place is credited twice, and at the end a mark is 1 where its debit was credited, and 0 elsewhere
pub record CreditedOnce (places : List ℕ) (end : Open) : Type 0 where
  pub once : NoneTwice places
  pub marked : (place : ℕ) → get_or end.marks place 0 ≡ cond (is_among place places) 1 0

abbrev pub NoneCreditedTwice : Type 0
NoneCreditedTwice = (debits : List ℕ) (count : ℕ) (places : List ℕ) (end : Open)
    → Sequence (record { debits = debits; marks = replicate count 0 }) places end → CreditedOnce places end

-- ---- 4. The same for every list of events, by what the contract's definitions give for each call.

-- what is lent to a call besides the open debits and their marks
pub record Lent : Type 0 where
  pub name : List ℕ
  pub received : List ℕ
  pub card : List ℕ
  pub names : List ℕ
  pub book : List ℕ
  pub tif : List ℕ
  pub tst : List ℕ
  pub records : List Record
  pub out : List ℕ

abbrev pub call_on : Open → Lent → Call
call_on o l = call_of l.name l.received l.card l.names l.book o.debits o.marks l.tif l.tst (length l.records) l.out

-- a call, or debits added at the end
pub data Event : Type 0 where
  call : Lent → Event
  add : (new : List ℕ) (count : ℕ) → Event

-- the open debits and marks after an event, and the places that it credits
unfoldable pub open_then : Event → Open → Open
open_then (call l) o = record { debits = o.debits; marks = marks_of (call_on o l) }
open_then (add new count) o = open_after (added new count) o

unfoldable pub places_credited : Event → Open → List ℕ
places_credited (call l) o = places_in (answer_of (call_on o l)) (records_of (call_on o l) l.records)
places_credited (add new count) o = []

-- over all of them
unfoldable pub open_end : List Event → Open → Open
open_end [] o = o
open_end (event ∷ events) o = open_end events (open_then event o)

unfoldable pub credited_over : List Event → Open → List ℕ
credited_over [] o = []
credited_over (event ∷ events) o = places_credited event o ++ credited_over events (open_then event o)

abbrev pub NoneCreditedTwiceByEvents : Type 0
NoneCreditedTwiceByEvents = (events : List Event) (debits : List ℕ) (count : ℕ)
    → CreditedOnce (credited_over events (record { debits = debits; marks = replicate count 0 })) (open_end events (record { debits = debits; marks = replicate count 0 }))

-- ---- 5. So a program that judges a first file and copies its answer for a later one breaks the contract: a debit that one call credits is not credited
-- by a call on the marks that it left, whatever else is lent.
abbrev pub NotCopied : Type 0
NotCopied = (c d : Call) (records others : List Record) (r s : Answer) (marks' marks'' : List ℕ) (records' others' : List Record) (out' out'' : List ℕ)
    → Judged c records r marks' records' out' → Judged d others s marks'' others' out'' → d.marks ≡ marks'
    → (k l debit : ℕ) → k < lines_to_record r → l < lines_to_record s → verdict_in records' k ≡ Credits debit → verdict_in others' l ≡ Credits debit → ⊥

-- ---- the proofs
-- the marks along a file: those of the places taken become 1
either : (a b : Bool) (mark : ℕ) → cond b 1 (cond a 1 mark) ≡ cond (a || b) 1 mark
either true true mark = refl
either true false mark = refl
either false b mark = refl

among_append : (place : ℕ) (xs ys : List ℕ) → is_among place (xs ++ ys) ≡ (is_among place xs || is_among place ys)
unfolding is_among
among_append place [] ys = refl
among_append place (x ∷ xs) ys = go (eqb place x) (among_append place xs ys)
  where
    go : (b : Bool) → is_among place (xs ++ ys) ≡ (is_among place xs || is_among place ys) → (b || is_among place (xs ++ ys)) ≡ (b || is_among place xs || is_among place ys)
    go true e = refl
    go false e = e

module _ (debits : List ℕ) (credits : ℕ → List ℕ) (reaches : ℕ → Bool) (marks : List ℕ) (p : ℕ) where
  abbrev at : ℕ → List ℕ
  at k = marks_after debits credits reaches marks k

  abbrev placed : ℕ → ℕ
  placed k = place_at debits credits reaches marks k

  abbrev taken : ℕ → List ℕ
  taken k = place_if_taken debits credits reaches marks k

  line_accepted : (k : ℕ) → credit_accepted debits credits reaches marks k ≡ true → (b : Bool) → eqb p (placed k) ≡ b → get_or (at (suc k)) p 0 ≡ cond (b || false) 1 (get_or (at k) p 0)
  line_accepted k a true e =
      let t = accepted_is debits credits reaches marks k a in
      rw (t.next, eqb-true p (placed k) e) (get_or-set_same (at k) (placed k) 1 0 (rw (after_length debits credits reaches marks k) t.within))
  line_accepted k a false e = rw (accepted_is debits credits reaches marks k a).next (get_or-set_other (at k) (placed k) p 1 0 (eqb-false p (placed k) e))

  line_marks : (k : ℕ) → get_or (at (suc k)) p 0 ≡ cond (is_among p (taken k)) 1 (get_or (at k) p 0)
  unfolding place_if_taken is_among
  line_marks k = go (credit_accepted debits credits reaches marks k) refl
    where
      go : (b : Bool) → credit_accepted debits credits reaches marks k ≡ b → get_or (at (suc k)) p 0 ≡ cond (is_among p (cond b (placed k ∷ []) [])) 1 (get_or (at k) p 0)
      go true a = line_accepted k a (eqb p (placed k)) refl
      go false a = rw (skipped_is debits credits reaches marks k a)

  file_marks : (n : ℕ) → get_or (at n) p 0 ≡ cond (is_among p (join_below n taken)) 1 (get_or marks p 0)
  unfolding join_below marks_after is_among
  file_marks zero = refl
  file_marks (suc n) =
      line_marks n
      ∙ ap (cond (is_among p (taken n)) 1) (file_marks n)
      ∙ either (is_among p (join_below n taken)) (is_among p (taken n)) (get_or marks p 0)
      ∙ ap (λ (b : Bool). cond b 1 (get_or marks p 0)) (sym (among_append p (join_below n taken) (taken n)))

-- what a call credits is what its file takes, line by line
place_none : (t : Option ℕ) → took_debit t ≡ false → place_of_taken t ≡ []
place_none (Some debit) e = absurd (true≢false e)
place_none None e = refl

module _ (c : Call) (records : List Record) (r : Answer) (marks' : List ℕ) (records' : List Record) (out' : List ℕ) (left : Judged c records r marks' records' out') where
  abbrev before : Open
  before = record { debits = c.debits; marks = c.marks }

  abbrev step : Step
  step = judged (lines_to_record r) (line_at c.tif) (reaches_at (judging_of c))

  abbrev taking : ℕ → Bool
  taking k = credit_accepted c.debits (line_at c.tif) (reaches_at (judging_of c)) c.marks k

  abbrev place : ℕ → ℕ
  place k = place_at c.debits (line_at c.tif) (reaches_at (judging_of c)) c.marks k

  place_step : (k : ℕ) → k < lines_to_record r → place_in records' k ≡ place_if_taken c.debits (line_at c.tif) (reaches_at (judging_of c)) c.marks k
  unfolding place_in place_if_taken
  place_step k h = ap (λ (v : Verdict). place_of_taken (debit_of v)) (verdict_left c records r marks' records' out' left k h) ∙ go (taking k) refl
    where
      go : (b : Bool) → taking k ≡ b → place_of_taken (debit_of (verdict_at (judging_of c) c.marks k)) ≡ cond b (place k ∷ []) []
      go true a =
          let e : place k + 1 - 1 ≡ place k = omega arith in
          ap (λ (v : Verdict). place_of_taken (debit_of v)) (carried_number (judging_of c) c.marks k a) ∙ ap (λ (x : ℕ). x ∷ []) e
      go false a = place_none (debit_of (verdict_at (judging_of c) c.marks k)) (sym (accepted_verdict (judging_of c) c.marks k) ∙ a)

  places_step : places_in r records' ≡ places_of step before
  unfolding places_in places_of
  places_step = join_same (place_in records') (place_if_taken c.debits (line_at c.tif) (reaches_at (judging_of c)) c.marks) (lines_to_record r) place_step

  open_step : record { debits = c.debits; marks = marks' } ≡ open_after step before
  unfolding open_after
  open_step = ap (λ (m : List ℕ). record { debits = c.debits; marks = m }) (marks_then_lem c records r marks' records' out' left)

  call_marks : (p : ℕ) → get_or marks' p 0 ≡ cond (is_among p (places_in r records')) 1 (get_or c.marks p 0)
  unfolding places_of
  call_marks p = rw (marks_then_lem c records r marks' records' out' left, places_step) (file_marks c.debits (line_at c.tif) (reaches_at (judging_of c)) c.marks p (lines_to_record r))

-- a sequence of calls as a sequence of files
record AsSteps (o : Open) (places : List ℕ) : Type 0 where
  pub steps : List Step
  pub same : places ≡ places_taken steps o

as_steps : {o end : Open} {places : List ℕ} → Sequence o places end → AsSteps o places
unfolding places_taken places_of
as_steps ends = record { steps = []; same = refl }
as_steps (calls {places} {end} c records r marks' records' out' left rest) =
    let q = as_steps rest in
    record {
      steps = step c records r marks' records' out' left ∷ q.steps;
      same =
          ap (λ (l : List ℕ). l ++ places) (places_step c records r marks' records' out' left)
          ∙ ap (λ (l : List ℕ). places_of (step c records r marks' records' out' left) (before c records r marks' records' out' left) ++ l)
          (q.same ∙ ap (places_taken q.steps) (open_step c records r marks' records' out' left));
    }
as_steps (adds {o} {end} {places} new count rest) =
    let q = as_steps rest in
    record { steps = added new count ∷ q.steps; same = q.same }

-- added debits have no mark
added_marks : (marks : List ℕ) (count p : ℕ) → get_or (marks ++ replicate count 0) p 0 ≡ get_or marks p 0
added_marks [] zero p = refl
added_marks [] (suc count) zero = refl
added_marks [] (suc count) (suc p) = added_marks [] count p
added_marks (x ∷ xs) count zero = refl
added_marks (x ∷ xs) count (suc p) = added_marks xs count p

sequence_marks : {o end : Open} {places : List ℕ} → Sequence o places end → (p : ℕ) → get_or end.marks p 0 ≡ cond (is_among p places) 1 (get_or o.marks p 0)
unfolding is_among open_after
sequence_marks ends p = refl
sequence_marks (calls {places} {end} c records r marks' records' out' left rest) p =
    sequence_marks rest p
    ∙ ap (cond (is_among p places) 1) (call_marks c records r marks' records' out' left p)
    ∙ either (is_among p (places_in r records')) (is_among p places) (get_or c.marks p 0)
    ∙ ap (λ (b : Bool). cond b 1 (get_or c.marks p 0)) (sym (among_append p (places_in r records') places))
sequence_marks (adds {o} {end} {places} new count rest) p = sequence_marks rest p ∙ ap (cond (is_among p places) 1) (added_marks o.marks count p)

pub none_credited_twice : NoneCreditedTwice
none_credited_twice debits count places end s =
    let q = as_steps s in
    record {
      once = rw q.same (none_taken_twice q.steps (record { debits = debits; marks = replicate count 0 }));
      marked = λ place. sequence_marks s place ∙ ap (cond (is_among place places) 1) (added_marks [] count place);
    }

-- every list of events is such a sequence
by_events : (events : List Event) (o : Open) → Sequence o (credited_over events o) (open_end events o)
unfolding credited_over open_end places_credited open_then
by_events [] o = ends
by_events (call l ∷ events) o =
    let c = call_on o l in
    calls c l.records (answer_of c) (marks_of c) (records_of c l.records) (out_of c) (record { answer = refl; marks_then = refl; out_then = refl; records_then = refl })
    (by_events events (open_then (call l) o))
by_events (add new count ∷ events) o = adds new count (by_events events (open_then (add new count) o))

pub none_credited_twice_by_events : NoneCreditedTwiceByEvents
none_credited_twice_by_events events debits count = none_credited_twice debits count _ _ (by_events events (record { debits = debits; marks = replicate count 0 }))

pub not_copied : NotCopied
not_copied c d records others r s marks' marks'' records' others' out' out'' first second handed k l debit h g e f =
    let one = ((marks_follow_records c records r marks' records' out' first).credited k debit h e).marked_after in
    let zero = ((marks_follow_records d others s marks'' others' out'' second).credited l debit g f).unmarked_before in
    let z : ◌≡◌ {A = ℕ} 1 0 = sym one ∙ ap (λ (m : List ℕ). get_or m (debit - 1) 0) (sym handed) ∙ zero in
    absurd (omega arith)
