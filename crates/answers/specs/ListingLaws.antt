-- The refused lines one by one: which refusal line k is, and what the TIC has after one line more. Assumes nothing.
use Rattle.std.specs.Prelude.{◌≡◌, Bool, ◌&&◌}
use Rattle.std.proofs.Math.Path.{refl, sym, ap, ap₂, subst}
use Rattle.std.proofs.Common.{◌∙◌, add-one, eq-eqb, ne_eqb}
use Rattle.std.proofs.Math.Bool.{true, false, not, cond, false≢true}
use mathlib.Core.List.{List, [], ◌++◌, append-nil}
use Prim.Native.Nat.{ℕ, zero, suc, ◌+◌, ◌-◌, ◌*◌, ◌≤◌, ◌<◌}
use native.Mathlib.Omega.{arith}
use Rattle.std.proofs.Math.ListN.{length, length-append}
use Rattle.std.proofs.Math.Dec.{eqb}
use Rattle.lines.specs.Below.{some_below, sum_below, join_below}
use Rattle.lines.specs.BelowLaws.{some_more, some_zero, first_hit, sum_suc, sum_zero, join_suc, join_within}
use Rattle.lines.specs.BoolLaws.{and_true, and_false_left, and_false_right}
use Rattle.tic_text.specs.Text.{Tic, listed_text, listed_at}
use Rattle.tic_text.specs.TextLaws.{part_length, listed_length}
use Rattle.lines.specs.RowsLaws.{line_length}
use Rattle.passage.specs.Passage.{line_width}
use Rattle.tif.specs.Body.{line_at}
use Rattle.tif.specs.Columns.{tif_layout}
use Rattle.judging.specs.Sums.{is_accepted, is_counted, one_at}
use Rattle.answers.specs.Card.{code_of}
use Rattle.answers.specs.Listing.{listed_lines, Worded, number_at, refused_at, refused_one, refused_before, is_refusal, refused_place, line_listed, refused_text}

module _ (words : List ℕ) where
  pub one_yes : (k : ℕ) → refused_at words k ≡ true → refused_one words k ≡ 1
  unfolding one_at
  one_yes k e = rw e

  pub one_no : (k : ℕ) → refused_at words k ≡ false → refused_one words k ≡ 0
  unfolding one_at
  one_no k e = rw e

  pub before_zero : refused_before words 0 ≡ 0
  unfolding refused_before
  before_zero = sum_zero (one_at true words)

  pub before_suc : (k : ℕ) → refused_before words (k + 1) ≡ refused_before words k + refused_one words k
  unfolding refused_before
  before_suc k = sum_suc (one_at true words) k

  pub before_more : (k : ℕ) → refused_before words k ≤ refused_before words (k + 1)
  before_more k = omega (arith, before_suc k)

  -- with more lines there are no fewer refusals
  pub before_le : (k n : ℕ) → refused_before words k ≤ refused_before words (k + n)
  before_le k zero = rw (native.Mathlib.Nat.add-zero k) (omega arith)
  before_le k (suc n) =
      let e : k + suc n ≡ k + n + 1 = omega arith in
      rw e (omega (arith, before_le k n, before_more (k + n)))

  -- line i before line k, refused: fewer refusals before it
  earlier : (i k : ℕ) → i < k → refused_at words i ≡ true → refused_before words i < refused_before words k
  earlier i k h e =
      let m = before_le (i + 1) (k - (i + 1)) in
      let f : i + 1 + (k - (i + 1)) ≡ k = omega arith in
      let g : refused_before words (i + 1) ≤ refused_before words k = rw f at m in
      omega (arith, before_suc i, one_yes i e)

  -- no line before k is the refusal that line k is
  none_before : (k m : ℕ) → m ≤ k → some_below m (is_refusal words (refused_before words k)) ≡ false
  unfolding is_refusal
  none_before k zero h = some_zero _
  none_before k (suc m) h =
      subst (λ (n : ℕ). some_below n (is_refusal words (refused_before words k)) ≡ false) (add-one m)
      (some_more _ m (none_before k m (omega arith)) (go (refused_at words m) refl))
    where
      go : (b : Bool) → refused_at words m ≡ b → (refused_at words m && eqb (refused_before words m) (refused_before words k)) ≡ false
      go true e = and_false_right (refused_at words m) (eqb (refused_before words m) (refused_before words k)) (ne_eqb (refused_before words m) (refused_before words k) (λ q. omega (arith, earlier m k (omega arith) e)))
      go false e = and_false_left (refused_at words m) (eqb (refused_before words m) (refused_before words k)) e

  -- a refused line is the refusal of its own number
  pub place_is : (k : ℕ) → k < length words → refused_at words k ≡ true → refused_place words (refused_before words k) ≡ k
  unfolding refused_place is_refusal
  place_is k h e =
      first_hit (is_refusal words (refused_before words k)) (length words) k h (none_before k k (omega arith))
      (and_true (refused_at words k) (eqb (refused_before words k) (refused_before words k)) e (eq-eqb (refused_before words k) (refused_before words k) refl))

-- what is listed after line k, of a TIC whose listed lines are the refused ones
module _ (tif card words : List ℕ) (v : Tic)
    (lines : (j : ℕ) → v.line j ≡ line_at tif (refused_place words j))
    (codes : (j : ℕ) → v.code j ≡ code_of card (number_at words (refused_place words j))) where
  listed_is : (k : ℕ) → k < length words → refused_at words k ≡ true → listed_at v (refused_before words k) ≡ line_listed tif card words k
  unfolding listed_at line_listed
  listed_is k h e =
      let j = refused_before words k in
      ap (λ (l : List ℕ). listed_text l (v.code j)) (lines j ∙ ap (line_at tif) (place_is words k h e))
      ∙ ap (λ (c : List ℕ). listed_text (line_at tif k) c) (codes j ∙ ap (λ (i : ℕ). code_of card (number_at words i)) (place_is words k h e))

  -- one line more
  join_refused : (k : ℕ) → k < length words → join_below (refused_before words (k + 1)) (listed_at v) ≡ join_below (refused_before words k) (listed_at v) ++ refused_text tif card words k
  unfolding refused_text
  join_refused k h = go (refused_at words k) refl
    where
      go : (b : Bool) → refused_at words k ≡ b → join_below (refused_before words (k + 1)) (listed_at v) ≡ join_below (refused_before words k) (listed_at v) ++ cond b (line_listed tif card words k) []
      go true e =
          let m : refused_before words (k + 1) ≡ refused_before words k + 1 = before_suc words k ∙ ap (λ (i : ℕ). refused_before words k + i) (one_yes words k e) in
          rw m (join_suc (listed_at v) (refused_before words k) ∙ ap (λ (l : List ℕ). join_below (refused_before words k) (listed_at v) ++ l) (listed_is k h e))
      go false e =
          let m : refused_before words (k + 1) ≡ refused_before words k = before_suc words k ∙ ap (λ (i : ℕ). refused_before words k + i) (one_no words k e) ∙ native.Mathlib.Nat.add-zero (refused_before words k) in
          rw m (sym (append-nil (join_below (refused_before words k) (listed_at v))))

  -- the listed lines are the refused ones, each once, in file order
  pub listed_all : (k : ℕ) → k ≤ length words → listed_lines tif card words k ≡ join_below (refused_before words k) (listed_at v)
  unfolding listed_lines join_below
  listed_all zero h = rw (before_zero words)
  listed_all (suc k) h =
      ap (λ (l : List ℕ). l ++ refused_text tif card words k) (listed_all k (omega arith))
      ∙ sym (join_refused k (omega arith))
      ∙ rw (add-one k)

-- the text of a line that is refused, and of one that is not
module _ (tif card words : List ℕ) where
  pub text_yes : (k : ℕ) → (number_at words k ≡ 0 → ⊥) → line_listed tif card words k ≡ refused_text tif card words k
  unfolding refused_text is_counted is_accepted
  text_yes k h = rw (ne_eqb (number_at words k) 0 h)

  pub text_no : (k : ℕ) → number_at words k ≡ 0 → [] ≡ refused_text tif card words k
  unfolding refused_text is_counted is_accepted
  text_no k h = rw (eq-eqb (number_at words k) 0 h)

  pub code_length : Worded tif card words → (k : ℕ) → k < length words → (number_at words k ≡ 0 → ⊥) → length (code_of card (number_at words k)) ≡ 2
  unfolding code_of
  code_length w k h n =
      let m = w.known k h in
      let e : number_at words k * 2 + 1 - (number_at words k * 2 - 1) ≡ 2 = omega arith in
      rw e (part_length (number_at words k * 2 - 1 - 1) 2 card (omega (arith, m)))

  -- a refused line has a number
  refused_number : (k : ℕ) → refused_at words k ≡ true → number_at words k ≡ 0 → ⊥
  unfolding is_counted is_accepted
  refused_number k e z = false≢true (sym (ap not (eq-eqb (number_at words k) 0 z)) ∙ e)

  pub line_long : Worded tif card words → (k : ℕ) → k < length words → length (line_at tif k) ≡ line_width
  line_long w k h = line_length tif_layout tif k (w.lined k h)

  pub text_length : Worded tif card words → (k : ℕ) → k < length words → length (refused_text tif card words k) ≡ refused_one words k * 812
  unfolding refused_text one_at line_listed
  text_length w k h = go (refused_at words k) refl
    where
      go : (b : Bool) → refused_at words k ≡ b → length (cond b (line_listed tif card words k) []) ≡ cond b 1 0 * 812
      go true e = (listed_length (line_at tif k) (code_of card (number_at words k)) (omega (arith, line_long w k h)) (code_length w k h (refused_number k e)))
      go false e = refl

  pub lines_length : Worded tif card words → (k : ℕ) → k ≤ length words → length (listed_lines tif card words k) ≡ refused_before words k * 812
  unfolding listed_lines refused_before join_below sum_below
  lines_length w zero h = refl
  lines_length w (suc k) h =
      omega (arith, length-append (join_below k (refused_text tif card words)) (refused_text tif card words k), lines_length w k (omega arith), text_length w k (omega arith))

  -- a line and a code as they were cut make the text of the line
  pub text_of : (k : ℕ) (line code : List ℕ) → line ≡ line_at tif k → code ≡ code_of card (number_at words k) → (number_at words k ≡ 0 → ⊥) → listed_text line code ≡ refused_text tif card words k
  unfolding line_listed
  text_of k line code e f n = ap₂ listed_text e f ∙ text_yes k n

  -- a refused line takes the room of one
  pub refused_room : Worded tif card words → (k : ℕ) → k < length words → (number_at words k ≡ 0 → ⊥) → length (refused_text tif card words k) ≡ 812
  unfolding is_counted is_accepted
  refused_room w k h n = text_length w k h ∙ ap (λ (i : ℕ). i * 812) (one_yes words k (ap not (ne_eqb (number_at words k) 0 n)))

  -- what is listed before line k, and line k, is within what is listed in all
  pub lines_within : Worded tif card words → (k : ℕ) → k < length words
      → length (listed_lines tif card words k) + length (refused_text tif card words k) ≤ refused_before words (length words) * 812
  unfolding listed_lines
  lines_within w k h =
      omega (arith, join_within (refused_text tif card words) (length words) k h, lines_length w (length words) (omega arith))
