-- Over a sequence of files that hands the marks on and only adds unmarked debits at the end, no debit is taken twice: each debit taken is marked from
-- then on. Assumes nothing.
use Rattle.std.specs.Prelude.{◌≡◌, Bool, not, length, get_or, set, replicate, eqb}
use Rattle.std.proofs.Math.Path.{refl}
use Rattle.std.proofs.Common.{sym, ap, ◌∙◌, true≢false, not-suc-le-zero, arith, length-append, length-set, eq-eqb}
use Rattle.std.proofs.Math.Bool.{true, false, cond}
use mathlib.Core.List.{List, [], ◌∷◌, ◌++◌, append-nil, append_assoc}
use Prim.Native.Nat.{ℕ, zero, suc, ◌<◌}
use Rattle.std.proofs.Math.ListN.{get_or-append}
use Rattle.std.proofs.lemmas.List.{get_or_at}
use Rattle.lines.specs.Below.{join_below}
use Rattle.lines.specs.BelowLaws.{below_suc}
use Rattle.lines.specs.BoolLaws.{and_false_left, and_false_right}
use Rattle.debits.specs.Taking.{unmarked}
use Rattle.debits.specs.Credits.{marks_after, place_at, credit_accepted}
use Rattle.debits.specs.CreditsLaws.{unmarked_set, skipped_is, after_length}
use Rattle.debits.proofs.AcceptedLaws.{accepted_is}
use Rattle.debits.specs.Sequence.{Open, Step, judged, added, open_after, place_if_taken, places_of, places_taken, NoneTwice}

-- what holds of the places taken so far: none twice, and each is marked now
record Held (places marks : List ℕ) : Type 0 where
  pub once : NoneTwice places
  pub marked : (a : ℕ) → a < length places → unmarked marks (get_or places a 0) ≡ false
  pub within : (a : ℕ) → a < length places → get_or places a 0 < length marks

-- ---- one place more
module _ (places marks : List ℕ) (at : ℕ) (held : Held places marks) (h : at < length marks) (u : unmarked marks at ≡ true) where
  abbrev more : List ℕ
  more = places ++ (at ∷ [])

  -- an index of the longer list: the last, or one of the list before
  last : {C : Type 0} (a : ℕ) → a < length more → (get_or more a 0 ≡ at → a ≡ length places → C) → (get_or more a 0 ≡ get_or places a 0 → a < length places → C) → C
  last a l new old =
      below_suc a (length places) (omega (arith, length-append places (at ∷ [])))
      (λ e. new (get_or_at places at [] 0 a (sym e)) e)
      (λ s. old (get_or-append places (at ∷ []) 0 a s) s)

  -- the new place was not taken before
  new_place : (a : ℕ) → a < length places → get_or places a 0 ≡ at → ⊥
  new_place a l e = true≢false (sym u ∙ ap (unmarked marks) (sym e) ∙ held.marked a l)

  held_more : Held more (set marks at 1)
  held_more =
      record {
        once = λ a b l m e.
            last a l
            (λ p i. last b m (λ q j. omega arith) (λ q j. absurd (new_place b j (sym q ∙ sym e ∙ p))))
            (λ p i. last b m (λ q j. absurd (new_place a i (sym p ∙ e ∙ q))) (λ q j. held.once a b i j (sym p ∙ e ∙ q)));
        marked = λ a l.
            last a l
            (λ p i. rw p (unmarked_set marks at h at ∙ and_false_right (unmarked marks at) (not (eqb at at)) (ap not (eq-eqb at at refl))))
            (λ p i. rw p (unmarked_set marks at h (get_or places a 0) ∙ and_false_left (unmarked marks (get_or places a 0)) (not (eqb (get_or places a 0) at)) (held.marked a i)));
        within = λ a l. last a l (λ p i. rw (p, length-set marks at 1) h) (λ p i. rw (p, length-set marks at 1) (held.within a i));
      }

-- ---- a file
module _ (debits : List ℕ) (credits : ℕ → List ℕ) (reaches : ℕ → Bool) (marks places : List ℕ) (held : Held places marks) where
  abbrev at : ℕ → List ℕ
  at k = marks_after debits credits reaches marks k

  abbrev so_far : ℕ → List ℕ
  so_far k = places ++ join_below k (place_if_taken debits credits reaches marks)

  -- what line k adds
  held_line : (k : ℕ) → Held (so_far k) (at k) → Held (so_far k ++ place_if_taken debits credits reaches marks k) (at (suc k))
  unfolding place_if_taken
  held_line k before = go (credit_accepted debits credits reaches marks k) refl
    where
      go : (b : Bool) → credit_accepted debits credits reaches marks k ≡ b → Held (so_far k ++ cond b (place_at debits credits reaches marks k ∷ []) []) (at (suc k))
      go true a =
          let t = accepted_is debits credits reaches marks k a in
          rw t.next (held_more (so_far k) (at k) (place_at debits credits reaches marks k) before (rw (after_length debits credits reaches marks k) t.within) t.unmarked_then)
      go false a = rw (skipped_is debits credits reaches marks k a, append-nil) before

  held_file : (k : ℕ) → Held (so_far k) (at k)
  unfolding join_below marks_after
  held_file zero = rw append-nil held
  held_file (suc k) = rw append_assoc at (held_line k (held_file k))

-- ---- debits added
held_added : (places marks : List ℕ) (count : ℕ) → Held places marks → Held places (marks ++ replicate count 0)
unfolding unmarked
held_added places marks count held =
    record {
      once = held.once;
      marked = λ a l. rw (get_or-append marks (replicate count 0) 0 (get_or places a 0) (held.within a l)) (held.marked a l);
      within = λ a l. let h = held.within a l in omega (arith, length-append marks (replicate count 0));
    }

-- ---- a sequence
held_sequence : (steps : List Step) (o : Open) (places : List ℕ) → Held places o.marks → NoneTwice (places ++ places_taken steps o)
unfolding places_taken places_of open_after
held_sequence [] o places held = rw append-nil held.once
held_sequence (judged lines credits reaches ∷ steps) o places held =
    let file = held_file o.debits credits reaches o.marks places held lines in
    rw append_assoc at (held_sequence steps (open_after (judged lines credits reaches) o) (places ++ places_of (judged lines credits reaches) o) file)
held_sequence (added new count ∷ steps) o places held =
    held_sequence steps (open_after (added new count) o) places (held_added places o.marks count held)

-- whatever is marked at the start, no place is taken twice
pub none_taken_twice : (steps : List Step) (o : Open) → NoneTwice (places_taken steps o)
none_taken_twice steps o = held_sequence steps o [] (record { once = λ a b l. absurd (not-suc-le-zero l); marked = λ a l. absurd (not-suc-le-zero l); within = λ a l. absurd (not-suc-le-zero l) })
