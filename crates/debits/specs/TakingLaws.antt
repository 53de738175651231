-- What is known of the debit that a credit takes. Assumes nothing.
use Rattle.std.specs.Prelude.{◌≡◌, Bool, cond, List, ℕ, suc, ◌+◌, ◌≤◌, ◌<◌, Option, Some, None}
use Rattle.std.proofs.Math.Path.{refl, sym}
use Rattle.std.proofs.Common.{ap, ◌∙◌, true≢false, arith}
use Rattle.std.proofs.Math.Bool.{true, false}
use Rattle.std.proofs.lemmas.Bool.{false≢true}
use Rattle.std.proofs.Math.Numerals.{add-one, sub-one}
use Rattle.std.proofs.Math.ListN.{length, set}
use Rattle.std.proofs.Math.Seq.{set_out}
use Rattle.std.proofs.Math.Dec.{ltb}
use borrow.Author.Tests.{lt-ltb, le-ltb, ltb-true, ltb-false}
use Rattle.lines.specs.BelowLaws.{first_found, first_is, some_none}
use Rattle.lines.specs.Below.{some_below}
use Rattle.lines.specs.Found.{found_below, found_is, found_not}
use Rattle.debits.specs.Taking.{free_for, place_taken, taken, took_debit, marks_then, Took}

module _ (debits marks credit : List ℕ) where
  abbrev free : ℕ → Bool
  free j = free_for debits marks credit j

  abbrev place : ℕ
  place = place_taken debits marks credit

  abbrev answer : Option ℕ
  answer = taken debits marks credit

  -- a place below the number of marks is a debit taken, and its number is one more
  pub taken_some : place < length marks → answer ≡ Some (place + 1)
  unfolding taken
  taken_some h = rw (lt-ltb place (length marks) h, add-one place)

  pub taken_none : length marks ≤ place → answer ≡ None
  unfolding taken
  taken_none h = rw (le-ltb place (length marks) h)

  -- the marks afterwards, by the place
  pub marks_then_lem : marks_then marks answer ≡ set marks place 1
  unfolding taken
  marks_then_lem = go (ltb place (length marks)) refl
    where
      go : (b : Bool) → ltb place (length marks) ≡ b
          → marks_then marks (cond b (Some (suc place)) None) ≡ set marks place 1
      go true e = rw sub-one
      go false e = sym (set_out marks place 1 (ltb-false place (length marks) e))

  -- a debit was taken: it stands at a place that has a mark, and was free
  pub took_some : took_debit answer ≡ true → (place < length marks) × (free place ≡ true)
  unfolding taken place_taken
  took_some = go (ltb place (length marks)) refl
    where
      go : (b : Bool) → ltb place (length marks) ≡ b
          → took_debit (cond b (Some (suc place)) None) ≡ true
          → (place < length marks) × (free place ≡ true)
      go true e t = let h = ltb-true place (length marks) e in (h, first_found free (length marks) h)
      go false e t = absurd (false≢true t)

  -- none was taken: none was free, and the marks stay
  pub took_none : took_debit answer ≡ false
      → (marks_then marks answer ≡ marks) × ((j : ℕ) → j < length marks → free j ≡ false)
  unfolding taken place_taken
  took_none = go (ltb place (length marks)) refl (some_below (length marks) free) refl
    where
      go : (b : Bool) → ltb place (length marks) ≡ b
          → (s : Bool) → some_below (length marks) free ≡ s
          → took_debit (cond b (Some (suc place)) None) ≡ false
          → (marks_then marks (cond b (Some (suc place)) None) ≡ marks) × ((j : ℕ) → j < length marks → free j ≡ false)
      go true e s f t = absurd (true≢false t)
      go false e true f t = absurd (omega (arith, ltb-false place (length marks) e, (first_is free (length marks) f).0))
      go false e false f t = (refl, some_none free (length marks) f)

  -- what is taken is the first free debit that is found, by its number
  pub free_within : (j : ℕ) → found_below (length marks) free ≡ Some j → j < length marks
  free_within j e = (found_is (length marks) free j (sym e)).1

  pub free_taken : (j : ℕ) → found_below (length marks) free ≡ Some j → answer ≡ Some (j + 1)
  unfolding place_taken
  free_taken j e =
      let f = found_is (length marks) free j (sym e) in
      taken_some (omega (arith, f.0, f.1)) ∙ ap (λ (k : ℕ). Some (k + 1)) (sym f.0)

  pub free_none : found_below (length marks) free ≡ None → answer ≡ None
  unfolding place_taken
  free_none e = let p = found_not (length marks) free (sym e) in taken_none (omega (arith, p))

  -- an answer with a number: it is one more than the place, and not above the number of marks
  pub taken_number : (m : ℕ) → answer ≡ Some m → (m ≡ place + 1) × (m ≤ length marks)
  taken_number m e =
      let h = (took_some (ap took_debit e)).0 in
      let s : m ≡ place + 1 = cc (taken_some h) in
      (s, omega arith)

-- the contract allows one answer and one list of marks
pub took_one : (debits marks credit : List ℕ) (r s : Option ℕ) (after other : List ℕ) → Took debits marks credit r after → Took debits marks credit s other → (r ≡ s) × (after ≡ other)
took_one debits marks credit r s after other t u =
    let e : r ≡ s = t.answer ∙ sym u.answer in
    (e, t.marked ∙ ap (marks_then marks) e ∙ sym u.marked)
