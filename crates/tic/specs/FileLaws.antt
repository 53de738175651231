-- A file of fixed-width rows is its rows joined, and rows of the right widths joined are such a file. Assumes nothing.
use Rattle.std.specs.Prelude.{◌≡◌, true, ◌&&◌, length, Some}
use Rattle.std.proofs.Math.Path.{sym, ap}
use Rattle.std.proofs.Common.{◌∙◌, not-suc-le-zero, zero-mul, suc-mul, mul-div_cancel, arith, length-append, take-append-drop, drop_at}
use mathlib.Core.List.{List, [], ◌++◌, append-nil, append_assoc}
use Prim.Native.Nat.{ℕ, zero, suc, ◌+◌, ◌-◌, ◌*◌, ◌≤◌, ◌<◌}
use Rattle.std.proofs.Math.Nat.{add-zero}
use Rattle.std.proofs.Math.ListN.{take, drop, length-drop}
use Rattle.std.proofs.Math.Seq.{take-add, take_all, take_at}
use Rattle.lines.specs.Below.{all_below, join_below}
use Rattle.lines.specs.BelowLaws.{all_each, below_suc}
use Rattle.lines.specs.BoolLaws.{and_true}
use Rattle.lines.specs.Rows.{most_lines, line_place, file_length, header_of, line_of, footer_of, lines_for, one_feed, line_feed_at, feeds_stand, framed_lines}
use Rattle.lines.specs.RowsLaws.{fits_yes, framed_yes}
use Rattle.lines.specs.declared.rows.Layout.{Layout}
use Rattle.tic_text.specs.TextLaws.{join_even}

-- what is joined before k, then what stands at k, then the rest
join_split : (f : ℕ → List ℕ) (n k : ℕ) → k < n → (rest : List ℕ) × (join_below n f ≡ join_below k f ++ (f k ++ rest))
unfolding join_below
join_split f zero k h = absurd (not-suc-le-zero h)
join_split f (suc n) k h =
    below_suc k n h
    (λ e. ([], rw (e, append-nil (f n))))
    (λ m. let s = join_split f n k m in (s.0 ++ f n, rw (s.1, append_assoc (join_below k f) (f k ++ s.0) (f n), append_assoc (f k) s.0 (f n))))

-- ---- a file is its rows joined
module _ (l : Layout) (file : List ℕ) where
  next_place : (k : ℕ) → line_place l (suc k) ≡ line_place l k + l.line
  next_place k = omega (arith, suc-mul k l.line)

  rows_front : (k : ℕ) → take (line_place l k) file ≡ header_of l file ++ join_below k (line_of l file)
  unfolding header_of line_of join_below
  rows_front zero = rw (zero-mul l.line, add-zero l.header, append-nil (take l.header file))
  rows_front (suc k) =
      ap (λ (m : ℕ). take m file) (next_place k)
      ∙ take-add (line_place l k) l.line file
      ∙ ap (λ (s : List ℕ). s ++ take l.line (drop (line_place l k) file)) (rows_front k)
      ∙ append_assoc (take l.header file) (join_below k (line_of l file)) (take l.line (drop (line_place l k) file))

  pub file_joined : (n : ℕ) → length file ≡ file_length l n → file ≡ header_of l file ++ join_below n (line_of l file) ++ footer_of l file n
  unfolding footer_of
  file_joined n e =
      let rest : List ℕ = drop (line_place l n) file in
      sym (take-append-drop (line_place l n) file)
      ∙ ap (λ (s : List ℕ). s ++ rest) (rows_front n)
      ∙ ap (λ (s : List ℕ). header_of l file ++ join_below n (line_of l file) ++ s) (sym (take_all l.footer rest (omega (arith, length-drop (line_place l n) file))))

-- ---- rows of the right widths joined
module _ (l : Layout) (head : List ℕ) (f : ℕ → List ℕ) (foot : List ℕ) (n : ℕ)
    (wide_head : length head ≡ l.header) (wide_line : (i : ℕ) → i < n → length (f i) ≡ l.line) (wide_foot : length foot ≡ l.footer) where
  front_length : (k : ℕ) → k ≤ n → length (head ++ join_below k f) ≡ line_place l k
  front_length k h = length-append head (join_below k f) ∙ omega (arith, join_even f l.line k (λ i m. wide_line i (omega arith)))

  pub joined_length : length (head ++ join_below n f ++ foot) ≡ file_length l n
  joined_length = length-append (head ++ join_below n f) foot ∙ omega (arith, front_length n (omega arith))

  pub joined_header : header_of l (head ++ join_below n f ++ foot) ≡ head
  unfolding header_of
  joined_header = rw (append_assoc head (join_below n f) foot) (take_at head (join_below n f ++ foot) l.header wide_head)

  pub joined_line : (k : ℕ) → k < n → line_of l (head ++ join_below n f ++ foot) k ≡ f k
  unfolding line_of
  joined_line k h =
      let s = join_split f n k h in
      let e : head ++ join_below n f ++ foot ≡ head ++ join_below k f ++ (f k ++ (s.0 ++ foot)) =
      ap (λ (x : List ℕ). head ++ x ++ foot) s.1
      ∙ ap (λ (x : List ℕ). x ++ foot) (sym (append_assoc head (join_below k f) (f k ++ s.0)))
      ∙ append_assoc (head ++ join_below k f) (f k ++ s.0) foot
      ∙ ap (λ (x : List ℕ). head ++ join_below k f ++ x) (append_assoc (f k) s.0 foot) in
      ap (λ (x : List ℕ). take l.line (drop (line_place l k) x)) e
      ∙ ap (take l.line) (drop_at (head ++ join_below k f) (f k ++ (s.0 ++ foot)) (line_place l k) (front_length k (omega arith)))
      ∙ take_at (f k) (s.0 ++ foot) l.line (wide_line k h)

  pub joined_footer : footer_of l (head ++ join_below n f ++ foot) n ≡ foot
  unfolding footer_of
  joined_footer =
      ap (take l.footer) (drop_at (head ++ join_below n f) foot (line_place l n) (front_length n (omega arith)))
      ∙ take_all l.footer foot (omega arith)

  -- with a line feed at the end of each row and none elsewhere, it is framed
  module _ (few : n ≤ most_lines) (some : 0 < l.line) (feed_head : one_feed head ≡ true) (feed_line : (i : ℕ) → i < n → one_feed (f i) ≡ true) (feed_foot : one_feed foot ≡ true) where
    counted : lines_for l (length (head ++ join_below n f ++ foot)) ≡ n
    counted =
        let e : length (head ++ join_below n f ++ foot) - (l.header + l.footer) ≡ n * l.line = omega (arith, joined_length) in
        rw e (mul-div_cancel n some)

    feeds : feeds_stand l (head ++ join_below n f ++ foot) n ≡ true
    unfolding feeds_stand line_feed_at
    feeds =
        let file : List ℕ = head ++ join_below n f ++ foot in
        and_true (one_feed (header_of l file) && all_below n (line_feed_at l file)) (one_feed (footer_of l file n))
        (and_true (one_feed (header_of l file)) (all_below n (line_feed_at l file)) (ap one_feed joined_header ∙ feed_head)
        (all_each (line_feed_at l file) n (λ i h. ap one_feed (joined_line i h) ∙ feed_line i h)))
        (ap one_feed joined_footer ∙ feed_foot)

    pub joined_framed : framed_lines l (head ++ join_below n f ++ foot) ≡ Some n
    joined_framed =
        let file : List ℕ = head ++ join_below n f ++ foot in
        framed_yes l file
        (fits_yes l (length file) (joined_length ∙ ap (file_length l) (sym counted)) (omega (arith, counted)))
        (ap (feeds_stand l file) counted ∙ feeds)
        ∙ ap Some counted
