-- What it shows that a TIC reads: each test that it passed. Assumes nothing.
use Rattle.std.specs.Prelude.{◌≡◌, refl, Bool, true, false, not, List, [], ◌∷◌, ℕ, drop, Result, Ok, Err, Option, Some, None}
use Rattle.std.proofs.Common.{sym, ap, ◌∙◌, arith}
use Rattle.std.proofs.lemmas.Bool.{false≢true}
use Rattle.lines.specs.FirstOf.{Row, ◌⇒◌, first_of}
use Rattle.lines.specs.Rows.{framed_lines}
use Rattle.lines.specs.RowsLaws.{Framed, framed_is}
use Rattle.tif.specs.Acceptance.{is_framed, framed_count}
use Rattle.tic_text.specs.Columns.{tic_layout}
use Rattle.tic_parts.specs.Reading.{tic_header, tic_footer, header_sound, head_of, counts_agree, lines_formed, footer_formed, sums_of, sums_fit, listed_sum, read_rows, values_of, read_tic}
use Rattle.tic_text.specs.declared.values.TicValues.{TicValues}
use Rattle.tic_text.specs.declared.fault.TicFault.{TicFault}
use Rattle.tic_text.specs.declared.fault.TicFault.TheVariants.{Framing, Header, Counts, ListedLine, Footer}

pub record Readable (tic : List ℕ) (n : ℕ) : Type 0 where
  pub framed : framed_lines tic_layout tic ≡ Some n
  pub whole : Framed tic_layout tic n
  pub header : header_sound (tic_header tic) ≡ true
  pub counts : counts_agree (tic_header tic) n ≡ true
  pub formed : lines_formed tic n ≡ true
  pub footer : footer_formed (tic_footer tic n) ≡ true
  pub sums : sums_fit (head_of (tic_header tic)) (sums_of (tic_footer tic n)) (listed_sum tic n) ≡ true

-- an answer with values has passed a row
passed : (b : Bool) (f : TicFault) (rows : List (Row (Result TicValues TicFault))) (other : Result TicValues TicFault) (v : TicValues)
    → first_of ((not b ⇒ Err f) ∷ rows) other ≡ Ok v → (b ≡ true) × (first_of rows other ≡ Ok v)
unfolding first_of
passed true f rows other v e = (refl, e)
passed false f rows other v e = let z : ◌≡◌ {A = ℕ} 0 1 = cc in absurd (omega arith)

-- and all of them
last : (tic : List ℕ) (n : ℕ) (v : TicValues) → first_of {A = Result TicValues TicFault} [] (Ok (values_of tic n)) ≡ Ok v → values_of tic n ≡ v
unfolding first_of
last tic n v e = cc

pub read_shows : (tic : List ℕ) (v : TicValues) → read_tic tic ≡ Ok v → Readable tic v.listed × (v ≡ values_of tic v.listed)
unfolding read_tic
read_shows tic v e = go (framed_lines tic_layout tic) refl e
  where
    go : (l : Option ℕ) → framed_lines tic_layout tic ≡ l
        → first_of ((not (is_framed l) ⇒ Err Framing) ∷ drop 1 (read_rows tic (framed_count l))) (Ok (values_of tic (framed_count l))) ≡ Ok v
        → Readable tic v.listed × (v ≡ values_of tic v.listed)
    go None f p = absurd (false≢true (passed false Framing (drop 1 (read_rows tic 0)) (Ok (values_of tic 0)) v p).0)
    go (Some n) f p =
        let rows = read_rows tic n in
        let end : Result TicValues TicFault = Ok (values_of tic n) in
        let p₁ = passed true Framing (drop 1 rows) end v p in
        let p₂ = passed (header_sound (tic_header tic)) Header (drop 2 rows) end v p₁.1 in
        let p₃ = passed (counts_agree (tic_header tic) n) Counts (drop 3 rows) end v p₂.1 in
        let p₄ = passed (lines_formed tic n) ListedLine (drop 4 rows) end v p₃.1 in
        let p₅ = passed (footer_formed (tic_footer tic n)) Footer (drop 5 rows) end v p₄.1 in
        let p₆ = passed (sums_fit (head_of (tic_header tic)) (sums_of (tic_footer tic n)) (listed_sum tic n)) Footer (drop 6 rows) end v p₅.1 in
        let q : values_of tic n ≡ v = last tic n v p₆.1 in
        let k : n ≡ v.listed = ap (λ (x : TicValues). x.listed) q in
        let r : Readable tic n =
        record {
          framed = f;
          whole = framed_is tic_layout tic n f;
          header = p₂.0;
          counts = p₃.0;
          formed = p₄.0;
          footer = p₅.0;
          sums = p₆.0;
        } in
        (rw k at r, sym q ∙ ap (values_of tic) k)
