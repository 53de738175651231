-- What is known of a TIC that was read and is written again. Assumes nothing.
use Rattle.std.specs.Prelude.{◌≡◌, true, List, ◌++◌, ℕ, ◌*◌, ◌≤◌, ◌<◌, length, Result, Ok, Err}
use Rattle.std.proofs.Common.{sym, ap, ◌∙◌, subst, arith, length-append}
use borrow.Author.Tests.{eqb-true, lt-ltb, le-ltb}
use Rattle.lines.specs.Below.{join_below}
use Rattle.lines.specs.Rows.{file_length}
use Rattle.lines.specs.RowsLaws.{line_ends, line_length, header_length}
use Rattle.lines.specs.Splice.{Put}
use Rattle.lines.specs.SpliceLaws.{put_more}
use Rattle.tif.specs.Acceptance.{framed_count}
use Rattle.tif.specs.Every.{every_first, every_rest}
use Rattle.tic_text.specs.Columns.{tic_layout, tif_receiver, received_stem, reception_moment}
use Rattle.tic.specs.Readable.{read_shows}
use Rattle.tic_parts.specs.Reading.{row_at, tic_header, tic_footer, tic_lines, head_of, sums_of, head_agrees, counts_agree, read_tic}
use Rattle.tic.specs.Rewriting.{line_read, code_read, tic_of, tic_length, rewritten_for, Rewrites}
use Rattle.tic_text.specs.Text.{header_text, listed_at, listed_count, footer_text, tic_text}
use Rattle.tic_text.specs.TextLaws.{part_length, listed_length, join_even, Wide, tic_length_lem}
use Rattle.tic_text.specs.TextLaws as texts
use Rattle.tic.specs.declared.rewriting.RewriteFault.{RewriteFault}
use Rattle.tic.specs.declared.rewriting.RewriteFault.TheVariants.{Unreadable, TooShort}
use Rattle.tic_text.specs.declared.fault.TicFault.{TicFault}
use Rattle.tic_text.specs.declared.values.TicHead.{TicHead}
use Rattle.tic_text.specs.declared.values.TicSums.{TicSums}
use Rattle.tic_text.specs.declared.values.TicValues.{TicValues}

-- the lines of a TIC that is long enough
module _ (tic : List ℕ) (n : ℕ) (w : file_length tic_layout n ≤ length tic) where
  pub row_length : (k : ℕ) → k < n → length (row_at tic k) ≡ 812
  row_length k h = line_length tic_layout tic k (omega (arith, line_ends tic_layout n k h))

  pub line_read_length : (k : ℕ) → k < n → length (line_read tic k) ≡ 809
  unfolding line_read
  line_read_length k h = part_length 0 809 (row_at tic k) (omega (arith, row_length k h))

  pub code_read_length : (k : ℕ) → k < n → length (code_read tic k) ≡ 2
  unfolding code_read
  code_read_length k h = part_length 809 2 (row_at tic k) (omega (arith, row_length k h))

  -- the lines before k, written
  pub rows_length : (k : ℕ) → k ≤ n → length (join_below k (listed_at (tic_of tic))) ≡ k * 812
  unfolding listed_at
  rows_length k h =
      join_even (listed_at (tic_of tic)) 812 k
      (λ i l. listed_length (line_read tic i) (code_read tic i) (omega (arith, line_read_length i (omega arith))) (code_read_length i (omega arith)))

-- the rejected count is that of the lines listed
count_is : (h : List ℕ) (n : ℕ) → counts_agree h n ≡ true → (head_of h).rejected.0 ≡ n
unfolding counts_agree head_agrees
count_is h n e = eqb-true (head_of h).rejected.0 n (every_first _ _ (every_first _ _ (every_rest _ _ (every_rest _ _ e))))

-- what was read, as it is written again
pub record Again (tic : List ℕ) (v : TicValues) : Type 0 where
  pub long : length tic ≡ tic_length v.listed
  pub head : v.head ≡ head_of (tic_header tic)
  pub sums : v.sums ≡ sums_of (tic_footer tic (tic_lines tic))
  pub count : listed_count (tic_of tic) ≡ v.listed
  pub header_long : length (tic_header tic) ≡ 196
  pub wide : Wide (tic_of tic)

pub again : (tic : List ℕ) (v : TicValues) → read_tic tic ≡ Ok v → Again tic v
again tic v e =
    let shown = read_shows tic v e in
    let r = shown.0 in
    let l : length tic ≡ tic_length v.listed = r.whole.counted.long in
    let within : file_length tic_layout v.listed ≤ length tic = omega arith in
    let c : listed_count (tic_of tic) ≡ v.listed = count_is (tic_header tic) v.listed r.counts in
    let h : length (tic_header tic) ≡ 196 = header_length tic_layout tic (omega arith) in
    record {
      long = l;
      head = ap (λ (x : TicValues). x.head) shown.1;
      sums = ap (λ (x : TicValues). x.sums) shown.1 ∙ ap (λ (n : ℕ). sums_of (tic_footer tic n)) (sym (ap framed_count r.framed));
      count = c;
      header_long = h;
      wide =
          record {
            receiver_long = part_length 1 6 (tic_header tic) (omega arith);
            stem_long = part_length 37 18 (tic_header tic) (omega arith);
            moment_long = part_length 55 14 (tic_header tic) (omega arith);
            line_long = λ k m. omega (arith, line_read_length tic v.listed within k (omega arith));
            code_long = λ k m. code_read_length tic v.listed within k (omega arith);
          };
    }

-- header, lines and footer, one after the other
pub whole_put : (tic : List ℕ) (v : TicValues) → Again tic v
    → (receiver stem moment : List ℕ) → receiver ≡ tif_receiver (tic_header tic) → stem ≡ received_stem (tic_header tic) → moment ≡ reception_moment (tic_header tic)
    → (out out₁ out₂ out₃ : List ℕ) (a b r : ℕ) → tic_length v.listed ≤ length out
    → Put (header_text receiver stem moment v.head) 0 out a out₁
    → Put (join_below v.listed (listed_at (tic_of tic))) a out₁ b out₂
    → Put (footer_text v.sums) b out₂ r out₃
    → Put (tic_text (tic_of tic)) 0 out r out₃
unfolding tic_text
whole_put tic v g receiver stem moment er es em out out₁ out₂ out₃ a b r room p q s =
    let f = listed_at (tic_of tic) in
    let head = header_text receiver stem moment v.head in
    let body = join_below v.listed f in
    let hl : length head ≡ 196 = texts.header_length receiver stem moment v.head (ap length er ∙ g.wide.receiver_long) (ap length es ∙ g.wide.stem_long) (ap length em ∙ g.wide.moment_long) in
    let bl : length body ≡ v.listed * 812 = rows_length tic v.listed (omega (arith, g.long)) v.listed (omega arith) in
    subst (λ (t : List ℕ). Put t 0 out r out₃)
    (ap (λ (x : List ℕ). header_text x stem moment v.head ++ body ++ footer_text v.sums) er
    ∙ ap (λ (x : List ℕ). header_text (tif_receiver (tic_header tic)) x moment v.head ++ body ++ footer_text v.sums) es
    ∙ ap (λ (x : List ℕ). header_text (tif_receiver (tic_header tic)) (received_stem (tic_header tic)) x v.head ++ body ++ footer_text v.sums) em
    ∙ ap (λ (x : TicHead). header_text (tif_receiver (tic_header tic)) (received_stem (tic_header tic)) (reception_moment (tic_header tic)) x ++ body ++ footer_text v.sums) g.head
    ∙ ap (λ (n : ℕ). header_text (tif_receiver (tic_header tic)) (received_stem (tic_header tic)) (reception_moment (tic_header tic)) (head_of (tic_header tic)) ++ join_below n f ++ footer_text v.sums) (sym g.count)
    ∙ ap (λ (x : TicSums). header_text (tif_receiver (tic_header tic)) (received_stem (tic_header tic)) (reception_moment (tic_header tic)) (head_of (tic_header tic)) ++ join_below (listed_count (tic_of tic)) f ++ footer_text x) g.sums)
    (put_more (head ++ body) (footer_text v.sums) 0 b r out out₂ out₃ (omega (arith, length-append head body))
    (put_more head body 0 a b out out₁ out₂ (omega arith) p q)
    s)

-- ---- the three answers
module _ (tic out : List ℕ) where
  pub not_read : (f : TicFault) → read_tic tic ≡ Err f → Rewrites tic out (Err (Unreadable f)) out
  unfolding rewritten_for
  not_read f e = record { answer = rw e; output = rw e }

  module _ (v : TicValues) (e : read_tic tic ≡ Ok v) where
    pub too_short : length out < length tic → Rewrites tic out (Err TooShort) out
    unfolding rewritten_for
    too_short h =
        let t = lt-ltb (length out) (tic_length v.listed) (omega (arith, (again tic v e).long)) in
        record { answer = rw (e, t); output = rw (e, t) }

    pub written : (r : ℕ) (out' : List ℕ) → length tic ≤ length out → Put (tic_text (tic_of tic)) 0 out r out' → Rewrites tic out (Ok r) out'
    unfolding rewritten_for
    written r out' h p =
        let g = again tic v e in
        let t = le-ltb (length out) (tic_length v.listed) (omega (arith, g.long)) in
        let n : r ≡ tic_length v.listed = omega (arith, p.place, tic_length_lem (tic_of tic) g.wide, g.count) in
        record { answer = rw (e, t) (ap {B = Result ℕ RewriteFault} Ok n); output = rw (e, t) p.spliced }
