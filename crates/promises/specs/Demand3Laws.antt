-- What demand 3 rests on for a whole file: the verdict on a line says whether it takes a debit, and which; the marks follow. Assumes nothing.
use Rattle.std.specs.Prelude.{◌≡◌, Bool, ◌&&◌, List, eqb, Result, Ok, Err, Option, Some, None}
use Rattle.std.proofs.Math.Path.{refl, sym, ap}
use Rattle.std.proofs.Common.{◌∙◌, true≢false, arith, get_or-set_same, get_or-set_other}
use Rattle.std.proofs.Math.Bool.{true, false, not}
use Rattle.std.proofs.lemmas.Bool.{false≢true}
use Prim.Native.Nat.{ℕ, zero, suc, ◌+◌, ◌≤◌, ◌<◌}
use Rattle.std.proofs.Math.ListN.{length, get_or}
use borrow.Author.Tests.{eqb-true, eqb-false}
use Rattle.lines.specs.BelowLaws.{below_suc}
use Rattle.lines.specs.BoolLaws.{and_left, and_right}
use Rattle.tif.specs.Body.{line_at}
use Rattle.tif.specs.declared.side.Side.{Side}
use Rattle.tif.specs.declared.side.Side.TheVariants.{Credit, Debit, Neither}
use Rattle.cover.specs.declared.cover.Place.{Place}
use Rattle.debits.specs.Assignment.{Exactly}
use Rattle.debits.specs.Credits.{marks_after, taken_at, place_at, credit_accepted, credit_refused}
use Rattle.debits.specs.CreditsLaws.{Accepted, skipped_is, after_length}
use Rattle.debits.proofs.AcceptedLaws.{accepted_is, unmarked_earlier}
use Rattle.debits.specs.Taking.{unmarked, place_taken, took_debit}
use Rattle.debits.specs.TakingLaws.{taken_some}
use Rattle.verdicts.specs.LineTests.{test_line, passes}
use Rattle.verdicts.specs.LineTestsLaws.{fails_each}
use Rattle.verdicts.specs.Verdict.{verdict_number}
use Rattle.verdicts.specs.declared.verdict.Verdict.{Verdict}
use Rattle.verdicts.specs.declared.verdict.Verdict.TheVariants.{Credits, WrongType, FieldOutOfForm, OtherActor, UnknownVehicle, PlateOutOfForm, RepeatedLine, NotCovered, NoDebit, UnknownStation}
use Rattle.judging.specs.Judging.{Judging, is_credit_file, repeated_at, cover_on, credit_of, debit_verdict, passed_verdict, taken_on, known_on, test_on, reaches_at, marks_before, verdict_at}
use Rattle.judging.specs.Marks.{debit_of, refusal_none}
use Rattle.judging.specs.StepLaws.{passed_credit, passed_debit, passed_neither, fails_verdict, passes_verdict, passes_reaches}

-- ---- the verdict on a line that does not reach L8: neither a credit nor L8
record Apart (v : Verdict) : Type 0 where
  pub none : debit_of v ≡ None
  pub other : v ≡ NoDebit → ⊥

apart_numbered : (v : Verdict) → 0 < verdict_number v → (verdict_number v ≡ 8 → ⊥) → Apart v
apart_numbered v h l = record { none = refusal_none v h; other = λ e. l (ap verdict_number e) }

apart_debit : (repeated : Bool) (cover : Option Place) → Apart (debit_verdict repeated cover)
apart_debit true cover = apart_numbered RepeatedLine (omega arith) (omega arith)
apart_debit false (Some place) = record { none = refl; other = λ e. let z : ◌≡◌ {A = ℕ} 0 8 = ap verdict_number e in absurd (omega arith) }
apart_debit false None = apart_numbered NotCovered (omega arith) (omega arith)

-- what L1 to L5 and L9 refuse
apart_test : (side : Side) (sender : List ℕ) (known : Bool) (line : List ℕ) (v : Verdict) → test_line side sender known line ≡ Err v → Apart v
apart_test side sender known line v e =
    fails_each Apart (apart_numbered WrongType (omega arith) (omega arith)) (apart_numbered FieldOutOfForm (omega arith) (omega arith)) (apart_numbered OtherActor (omega arith) (omega arith))
    (apart_numbered UnknownVehicle (omega arith) (omega arith)) (apart_numbered PlateOutOfForm (omega arith) (omega arith)) side sender known line v
    (λ k. apart_numbered UnknownStation (omega arith) (omega arith)) e

credit_only : (side : Side) → is_credit_file side ≡ true → side ≡ Credit
credit_only Credit e = refl
credit_only Debit e = absurd (false≢true e)
credit_only Neither e = absurd (false≢true e)

passes_only : (t : Result (Unit {0}) Verdict) → passes t ≡ true → t ≡ Ok tt
passes_only (Err v) e = absurd (false≢true e)
passes_only (Ok tt) e = refl

module _ (j : Judging) (marks : List ℕ) (k : ℕ) where
  abbrev line : List ℕ
  line = line_at j.tif k

  abbrev test : Result (Unit {0}) Verdict
  test = test_on j k

  abbrev before : List ℕ
  before = marks_before j marks k

  abbrev took : Option ℕ
  took = taken_at j.debits (line_at j.tif) (reaches_at j) marks k

  by_side : test ≡ Ok tt → {side : Side} → j.side ≡ side → verdict_at j marks k ≡ passed_verdict side (repeated_at j.tif k) (cover_on j.book line) (taken_on j before k)
  unfolding verdict_at
  by_side e s = passes_verdict j before k e ∙ ap (λ (x : Side). passed_verdict x (repeated_at j.tif k) (cover_on j.book line) (taken_on j before k)) s

  -- a line reaches L8 where its file is CRE and it passes L1 to L5 and L9
  pub reaches_is : reaches_at j k ≡ true → (j.side ≡ Credit) × (test ≡ Ok tt)
  unfolding reaches_at
  reaches_is e = (credit_only j.side (and_left (is_credit_file j.side) (passes test) e), passes_only test (and_right (is_credit_file j.side) (passes test) e))

  -- it is judged by what it takes
  reaching : reaches_at j k ≡ true → verdict_at j marks k ≡ credit_of took
  unfolding taken_at
  reaching e =
      let r = reaches_is e in
      by_side r.1 r.0 ∙ passed_credit (repeated_at j.tif k) (cover_on j.book line) (taken_on j before k)

  -- any other line is neither a credit of a debit nor L8
  not_reaching : reaches_at j k ≡ false → Apart (verdict_at j marks k)
  unfolding verdict_at
  not_reaching r = go test refl
    where
      passed : test ≡ Ok tt → (side : Side) → j.side ≡ side → Apart (verdict_at j marks k)
      passed e Credit s = absurd (true≢false (sym (passes_reaches j before k e ∙ ap is_credit_file s) ∙ r))
      passed e Debit s =
          rw (by_side e s ∙ passed_debit (repeated_at j.tif k) (cover_on j.book line) (taken_on j before k))
          (apart_debit (repeated_at j.tif k) (cover_on j.book line))
      passed e Neither s =
          rw (by_side e s ∙ passed_neither (repeated_at j.tif k) (cover_on j.book line) (taken_on j before k))
          (apart_numbered WrongType (omega arith) (omega arith))

      go : (t : Result (Unit {0}) Verdict) → test ≡ t → Apart (verdict_at j marks k)
      go (Err v) e = rw (sym (fails_verdict j before k v e)) (apart_test j.side j.sender (known_on j k) line v e)
      go (Ok tt) e = passed e j.side refl

  -- ---- so the verdict says whether a credit was accepted, and with which debit, or refused
  abbrev accepted : Bool
  accepted = credit_accepted j.debits (line_at j.tif) (reaches_at j) marks k

  abbrev refused : Bool
  refused = credit_refused j.debits (line_at j.tif) (reaches_at j) marks k

  abbrev place : ℕ
  place = place_at j.debits (line_at j.tif) (reaches_at j) marks k

  credit_took : (t : Option ℕ) → took_debit (debit_of (credit_of t)) ≡ took_debit t
  credit_took (Some debit) = refl
  credit_took None = refl

  pub accepted_reaches : accepted ≡ true → reaches_at j k ≡ true
  unfolding credit_accepted
  accepted_reaches a = and_left (reaches_at j k) (took_debit took) a

  pub refused_reaches : refused ≡ true → reaches_at j k ≡ true
  unfolding credit_refused
  refused_reaches a = and_left (reaches_at j k) (not (took_debit took)) a

  pub accepted_verdict : accepted ≡ took_debit (debit_of (verdict_at j marks k))
  unfolding credit_accepted
  accepted_verdict = go (reaches_at j k) refl
    where
      go : (b : Bool) → reaches_at j k ≡ b → (b && took_debit took) ≡ took_debit (debit_of (verdict_at j marks k))
      go true e = sym (ap (λ (v : Verdict). took_debit (debit_of v)) (reaching e) ∙ credit_took took)
      go false e = sym (ap took_debit (not_reaching e).none)

  unmatched_only : (t : Option ℕ) → credit_of t ≡ NoDebit → not (took_debit t) ≡ true
  unmatched_only (Some debit) e = let z : ◌≡◌ {A = ℕ} 0 8 = ap verdict_number e in absurd (omega arith)
  unmatched_only None e = refl

  unmatched_then : (t : Option ℕ) → not (took_debit t) ≡ true → credit_of t ≡ NoDebit
  unmatched_then (Some debit) e = absurd (false≢true e)
  unmatched_then None e = refl

  pub refused_verdict : Exactly (verdict_at j marks k ≡ NoDebit) (refused ≡ true)
  unfolding credit_refused
  refused_verdict = go (reaches_at j k) refl
    where
      go : (b : Bool) → reaches_at j k ≡ b → Exactly (verdict_at j marks k ≡ NoDebit) ((b && not (took_debit took)) ≡ true)
      go true e = record { only = λ v. unmatched_only took (sym (reaching e) ∙ v); whenever = λ n. reaching e ∙ unmatched_then took n }
      go false e = record { only = λ v. absurd ((not_reaching e).other v); whenever = λ n. absurd (false≢true n) }

  -- a credit that is accepted carries the number of its debit, one more than the place
  pub carried_number : accepted ≡ true → verdict_at j marks k ≡ Credits (place + 1)
  unfolding taken_at place_at
  carried_number a =
      let t = accepted_is j.debits (line_at j.tif) (reaches_at j) marks k a in
      let l : place_taken j.debits before line < length before = rw (after_length j.debits (line_at j.tif) (reaches_at j) marks k) t.within in
      reaching (accepted_reaches a) ∙ ap credit_of (taken_some j.debits before line l)

  -- and a line whose verdict carries a debit is such a credit
  pub carrying : (debit : ℕ) → verdict_at j marks k ≡ Credits debit → (accepted ≡ true) × (debit ≡ place + 1)
  carrying debit e =
      let a : accepted ≡ true = accepted_verdict ∙ ap (λ (v : Verdict). took_debit (debit_of v)) e in
      let q : Credits debit ≡ Credits (place + 1) = sym e ∙ carried_number a in
      (a, cc)

-- ---- the marks along a file: the debits that its lines credit become 1, and no other mark changes
module _ (j : Judging) (marks : List ℕ) where
  abbrev at : ℕ → List ℕ
  at n = marks_before j marks n

  abbrev placed : ℕ → ℕ
  placed k = place_at j.debits (line_at j.tif) (reaches_at j) marks k

  abbrev taking : ℕ → Bool
  taking k = credit_accepted j.debits (line_at j.tif) (reaches_at j) marks k

  abbrev Taking : ℕ → Type 0
  Taking k = Accepted j.debits (line_at j.tif) (reaches_at j) marks k

  pub taking_is : (k : ℕ) → taking k ≡ true → Taking k
  taking_is k a = accepted_is j.debits (line_at j.tif) (reaches_at j) marks k a

  at_long : (n : ℕ) → length (at n) ≡ length marks
  at_long n = after_length j.debits (line_at j.tif) (reaches_at j) marks n

  -- a mark of 1 stays
  stays : (i n p : ℕ) → i ≤ n → get_or (at i) p 0 ≡ 1 → get_or (at n) p 0 ≡ 1
  stays i zero p h m = let z : i ≡ 0 = omega arith in rw z at m
  stays i (suc n) p h m =
      below_suc i (suc n) (omega arith)
      (λ e. rw e at m)
      (λ l. go (taking n) refl (eqb p (placed n)) refl (stays i n p (omega arith) m))
    where
      go : (a : Bool) → taking n ≡ a → (b : Bool) → eqb p (placed n) ≡ b → get_or (at n) p 0 ≡ 1 → get_or (at (suc n)) p 0 ≡ 1
      go true f true g o =
          let t = taking_is n f in
          rw (t.next, eqb-true p (placed n) g) (get_or-set_same (at n) (placed n) 1 0 (rw (at_long n) t.within))
      go true f false g o = rw (taking_is n f).next (get_or-set_other (at n) (placed n) p 1 0 (eqb-false p (placed n) g) ∙ o)
      go false f b g o = rw (skipped_is j.debits (line_at j.tif) (reaches_at j) marks n f) o

  pub marked_then : (n k : ℕ) → k < n → taking k ≡ true → get_or (at n) (placed k) 0 ≡ 1
  marked_then n k h a =
      let t = taking_is k a in
      stays (suc k) n (placed k) h (rw t.next (get_or-set_same (at k) (placed k) 1 0 (rw (at_long k) t.within)))

  pub unmarked_first : (k : ℕ) → taking k ≡ true → get_or marks (placed k) 0 ≡ 0
  unfolding unmarked marks_after
  unmarked_first k a =
      eqb-true (get_or marks (placed k) 0) 0
      (unmarked_earlier j.debits (line_at j.tif) (reaches_at j) marks 0 k (omega arith) (placed k) (taking_is k a).unmarked_then)

  -- a mark that no line credits stays as it was
  pub unchanged : (n p : ℕ) → ((k : ℕ) → k < n → verdict_at j marks k ≡ Credits (p + 1) → ⊥) → get_or (at n) p 0 ≡ get_or marks p 0
  unfolding marks_after
  unchanged zero p none = refl
  unchanged (suc n) p none = go (taking n) refl ∙ unchanged n p (λ k h. none k (omega arith))
    where
      go : (a : Bool) → taking n ≡ a → get_or (at (suc n)) p 0 ≡ get_or (at n) p 0
      go true f =
          let apart : p ≡ placed n → ⊥ = λ e. none n (omega arith) (carried_number j marks n f ∙ ap (λ (x : ℕ). Credits (x + 1)) (sym e)) in
          rw (taking_is n f).next (get_or-set_other (at n) (placed n) p 1 0 apart)
      go false f = rw (skipped_is j.debits (line_at j.tif) (reaches_at j) marks n f)
