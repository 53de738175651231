-- The TIC written piece by piece: header, refused lines, footer. Assumes nothing.
use Rattle.std.specs.Prelude.{◌≡◌, refl, ℕ, ◌+◌, ◌*◌, length}
use Rattle.std.proofs.Common.{sym, ◌∙◌, arith}
use Rattle.std.proofs.Math.Path.{ap, subst}
use mathlib.Core.List.{List, ◌++◌}
use Rattle.std.proofs.Math.ListN.{length-append}
use Rattle.lines.specs.Below.{join_below}
use Rattle.lines.specs.Splice.{Put}
use Rattle.lines.specs.SpliceLaws.{put_more, put_length}
use Rattle.tic_text.specs.Text.{header_text, footer_text, listed_at, tic_text}
use Rattle.tic_text.specs.TextLaws.{header_length, part_length}
use Rattle.tic_text.specs.declared.values.TicHead.{TicHead}
use Rattle.tic_text.specs.declared.values.TicSums.{TicSums}
use Rattle.tif.specs.Name.{name_receiver, name_stem}
use Rattle.answers.specs.Listing.{listed_lines, refused_before, tic_of, TicRoom}
use Rattle.answers.specs.ListingLaws.{lines_length, listed_all}

-- a place after a piece, and a buffer of the same length
pub record Moved (at : ℕ) (out : List ℕ) (r : ℕ) (out' : List ℕ) : Type 0 where
  pub place : r ≡ at
  pub same : length out' ≡ length out

module _ (name received card tif words : List ℕ) (h : TicHead) (s : TicSums) (out : List ℕ) (t : TicRoom name received card tif words h out) where
  pub receiver_long : length (name_receiver name) ≡ 6
  receiver_long = part_length 22 6 name (omega (arith, t.named))

  pub stem_long : length (name_stem name) ≡ 18
  stem_long = part_length 3 18 name (omega (arith, t.named))

  abbrev header : List ℕ
  header = header_text (name_receiver name) (name_stem name) received h

  abbrev listed : List ℕ
  listed = listed_lines tif card words (length words)

  header_long : length header ≡ 196
  header_long = header_length (name_receiver name) (name_stem name) received h receiver_long stem_long t.dated

  listed_long : length listed ≡ refused_before words (length words) * 812
  listed_long = lines_length tif card words t.worded (length words) (omega arith)

  pub after_header : (m : ℕ) (out₁ : List ℕ) → Put header 0 out m out₁ → Moved 196 out m out₁
  after_header m out₁ p = record { place = omega (arith, p.place, header_long); same = put_length header 0 m out out₁ (omega (arith, header_long, t.room)) p }

  pub after_lines : (m n : ℕ) (out₁ out₂ : List ℕ) → Put header 0 out m out₁ → Put listed m out₁ n out₂ → Moved (196 + refused_before words (length words) * 812) out n out₂
  after_lines m n out₁ out₂ p q =
      let a = after_header m out₁ p in
      record { place = omega (arith, a.place, q.place, listed_long); same = put_length listed m n out₁ out₂ (omega (arith, a.place, a.same, listed_long, t.room)) q ∙ a.same }

  -- the three pieces are the TIC
  pub tic_whole : (m n r : ℕ) (out₁ out₂ out₃ : List ℕ) → Put header 0 out m out₁ → Put listed m out₁ n out₂ → Put (footer_text s) n out₂ r out₃
      → Put (tic_text (tic_of name received card tif words h s)) 0 out r out₃
  unfolding tic_text
  tic_whole m n r out₁ out₂ out₃ p q f =
      let v = tic_of name received card tif words h s in
      let e : listed ≡ join_below h.rejected.0 (listed_at v) =
      listed_all tif card words v (λ j. refl) (λ j. refl) (length words) (omega arith) ∙ ap (λ (k : ℕ). join_below k (listed_at v)) (sym t.counted) in
      subst (λ (l : List ℕ). Put (header ++ l ++ footer_text s) 0 out r out₃) e
      (put_more (header ++ listed) (footer_text s) 0 n r out out₂ out₃ (omega (arith, length-append header listed, header_long, listed_long, t.room))
      (put_more header listed 0 m n out out₁ out₂ (omega (arith, header_long, t.room)) p q) f)
