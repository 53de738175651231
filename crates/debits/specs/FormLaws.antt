-- What is known of open debits and marks of the right form. Assumes nothing.
use Rattle.std.specs.Prelude.{◌≡◌, Bool, true, false, Some, None, MatchBool, ◌&&◌, List, ℕ, ◌+◌, ◌*◌, ◌≤◌, ◌<◌, length, get_or, eqb}
use Rattle.std.specs.List.{AllWithin, HoldsAt}
use Rattle.std.proofs.Math.Path.{refl, ap, sym}
use Rattle.std.proofs.Common.{arith}
use borrow.Author.Tests.{eqb-true, leb-true, le-leb, lt-leb}
use Rattle.lines.specs.BelowLaws.{all_at, all_each, all_fails}
use Rattle.lines.specs.BoolLaws.{and_left, and_right}
use Rattle.lines.specs.Rows.{Counted, count_fits, line_count, line_place}
use Rattle.lines.specs.RowsLaws.{line_ends, line_length, count_yes, count_is, count_not}
use Rattle.passage.specs.Passage.{line_width}
use Rattle.debits.specs.Form.{debit_layout, debit_line, debit_count, debit_sound_at, lines_sound, mark_sound_at, marks_sound, debits_sound, Sound}

-- ---- a line of n
module _ (debits : List ℕ) (n j : ℕ) (h : n * line_width ≤ length debits) (k : j < n) where
  pub debit_ends : line_place debit_layout j + line_width ≤ length debits
  debit_ends = omega (arith, line_ends debit_layout n j k)

  pub debit_length : length (debit_line debits j) ≡ line_width
  debit_length = line_length debit_layout debits j debit_ends

-- ---- what the right form shows
module _ (debits marks : List ℕ) (e : debits_sound debits marks ≡ true) where
  rest : Bool
  rest = eqb (debit_count debits) (length marks) && marks_sound marks

  counted : Counted debit_layout (length debits) (debit_count debits)
  unfolding debits_sound rest
  counted =
      let fits = and_left (count_fits debit_layout (length debits)) (lines_sound debits (debit_count debits) && rest) e in
      (count_is debit_layout (length debits) (debit_count debits) (count_yes debit_layout (length debits) fits)).2

  after : (lines_sound debits (debit_count debits) && rest) ≡ true
  unfolding debits_sound rest
  after = and_right (count_fits debit_layout (length debits)) (lines_sound debits (debit_count debits) && rest) e

  as_many : debit_count debits ≡ length marks
  unfolding rest
  as_many =
      eqb-true (debit_count debits) (length marks)
      (and_left (eqb (debit_count debits) (length marks)) (marks_sound marks) (and_right (lines_sound debits (debit_count debits)) rest after))

  -- open debits and marks of the right form
  pub sound_is : Sound debits marks
  unfolding rest lines_sound marks_sound debit_sound_at mark_sound_at
  sound_is =
      let lines = and_left (lines_sound debits (debit_count debits)) rest after in
      let bytes = and_right (eqb (debit_count debits) (length marks)) (marks_sound marks) (and_right (lines_sound debits (debit_count debits)) rest after) in
      record {
        long = omega (arith, counted.long, ap (λ (n : ℕ). n * line_width) as_many);
        few = rw as_many at counted.few;
        each = λ j h. all_at (debit_sound_at debits) (debit_count debits) lines j (rw as_many h);
        binary = λ j h. leb-true (get_or marks j 0) 1 (all_at (mark_sound_at marks) (length marks) bytes j h);
      }

and_first : (a b c : Bool) → (a && (b && c)) ≡ (b && (a && c))
and_first true b c = refl
and_first false true c = refl
and_first false false c = refl

-- what is found of each mark, and of the number of lines that the length gives
pub marks_told : (marks : List ℕ) (b : Bool) → MatchBool b (AllWithin (λ x. x ≤ 1) marks 0 (length marks)) ((k : ℕ) × (k < length marks) × HoldsAt (λ x. 1 < x) marks k)
    → b ≡ marks_sound marks
unfolding marks_sound mark_sound_at
marks_told marks true h = sym (all_each _ (length marks) (λ i l. le-leb (get_or marks i 0) 1 (h i 0 (omega arith) l)))
marks_told marks false h = sym (all_fails _ (length marks) h.0 h.1 (lt-leb (get_or marks h.0 0) 1 (h.2 0)))

module _ (debits marks : List ℕ) where
  pub debits_unruled : line_count debit_layout (length debits) ≡ None → debits_sound debits marks ≡ false
  unfolding debits_sound
  debits_unruled e = rw (count_not debit_layout (length debits) e)

  module _ (n : ℕ) (e : line_count debit_layout (length debits) ≡ Some n) where
    pub debits_lined : n * line_width ≤ length debits
    debits_lined = omega (arith, (count_is _ _ _ e).2.long)

    pub debits_told : debits_sound debits marks ≡ (eqb n (length marks) && (lines_sound debits n && marks_sound marks))
    unfolding debits_sound
    debits_told = let is = count_is _ _ _ e in rw (is.0, ← is.1) (and_first (lines_sound debits n) (eqb n (length marks)) (marks_sound marks))
