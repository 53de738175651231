-- The laws of texts made of pieces: how wide they are, how they are written one after the other, and that cutting gives them back. Assumes nothing.
use Rattle.std.specs.Prelude.{◌≡◌, refl, List, [], ◌∷◌, ◌++◌, ℕ, ◌+◌, ◌≤◌, ◌<◌, length, take, drop, get_or}
use Rattle.std.proofs.Common.{sym, ap, ◌∙◌, append-nil, append_assoc, arith, length-append, take-append-drop, drop-drop}
use Rattle.std.proofs.lemmas.List.{take_more, get_or-map, length-map}
use Rattle.std.proofs.Math.Seq.{drop-append_seam, drop-length, take-append_seam}
use Rattle.lines.specs.Splice.{Put}
use Rattle.lines.specs.SpliceLaws.{put_more}
use denote.Ref.{Bor}
use Rattle.tic_text.specs.Pieces.{joined, texts_of, widths_of, total, cut_from}

pub joined_length : (ps : List (List ℕ)) → length (joined ps) ≡ total (widths_of ps)
unfolding joined
joined_length [] = refl
joined_length (p ∷ ps) = length-append p (joined ps) ∙ ap (λ (n : ℕ). length p + n) (joined_length ps)

pub joined_append : (ps qs : List (List ℕ)) → joined (ps ++ qs) ≡ joined ps ++ joined qs
unfolding joined
joined_append [] qs = refl
joined_append (p ∷ ps) qs = ap (λ (s : List ℕ). p ++ s) (joined_append ps qs) ∙ sym (append_assoc p (joined ps) (joined qs))

joined_one : (p : List ℕ) → joined (p ∷ []) ≡ p
unfolding joined
joined_one p = append-nil p

-- ---- written one after the other
-- the first piece
pub put_first : (p : List ℕ) (at r : ℕ) (out out' : List ℕ) → Put p at out r out' → Put (joined (p ∷ [])) at out r out'
put_first p at r out out' q = rw (joined_one p) q

-- pieces behind pieces
pub put_pieces : (ps qs : List (List ℕ)) (at mid r : ℕ) (out out₁ out₂ : List ℕ) → at + total (widths_of ps) ≤ length out
    → Put (joined ps) at out mid out₁ → Put (joined qs) mid out₁ r out₂ → Put (joined (ps ++ qs)) at out r out₂
put_pieces ps qs at mid r out out₁ out₂ h p q =
    rw (joined_append ps qs) (put_more (joined ps) (joined qs) at mid r out out₁ out₂ (rw (joined_length ps) h) p q)

-- one more piece
pub put_piece : (ps : List (List ℕ)) (p : List ℕ) (at mid r : ℕ) (out out₁ out₂ : List ℕ) → at + total (widths_of ps) ≤ length out
    → Put (joined ps) at out mid out₁ → Put p mid out₁ r out₂ → Put (joined (ps ++ (p ∷ []))) at out r out₂
put_piece ps p at mid r out out₁ out₂ h q s = put_pieces ps (p ∷ []) at mid r out out₁ out₂ h q (put_first p mid r out₁ out₂ s)

-- ---- texts that are lent, written one after the other: with text k those before it
module _ (ts : List (Bor (List ℕ))) (k : ℕ) (d : Bor (List ℕ)) (h : k < length ts) where
  pub texts_more : joined (take (k + 1) (texts_of ts)) ≡ joined (take k (texts_of ts)) ++ (get_or ts k d).now
  texts_more =
      ap joined (take_more (texts_of ts) k d.now (omega (arith, length-map ts (λ (t : Bor (List ℕ)). t.now))))
      ∙ joined_append (take k (texts_of ts)) (get_or (texts_of ts) k d.now ∷ [])
      ∙ ap (λ (s : List ℕ). joined (take k (texts_of ts)) ++ s) (joined_one (get_or (texts_of ts) k d.now) ∙ get_or-map (λ (t : Bor (List ℕ)). t.now) ts k d d.now h)

  -- there is room for it where there is for all
  pub texts_fit : length (joined (take k (texts_of ts))) + length (get_or ts k d).now ≤ length (joined (texts_of ts))
  texts_fit =
      let front = take (k + 1) (texts_of ts) in
      let rest = drop (k + 1) (texts_of ts) in
      omega (
        arith,
        ap length texts_more,
        length-append (joined (take k (texts_of ts))) (get_or ts k d).now,
        ap (λ (ps : List (List ℕ)). length (joined ps)) (take-append-drop (k + 1) (texts_of ts)),
        ap length (joined_append front rest),
        length-append (joined front) (joined rest),
      )

-- ---- cut, and joined again
-- a row is its pieces joined
pub cut_joined : (at : ℕ) (ws row : List ℕ) → length row ≡ at + total ws → joined (cut_from at ws row) ≡ drop at row
unfolding joined
cut_joined at [] row e =
    let f : at ≡ length row = omega arith in
    rw f (sym (drop-length row))
cut_joined at (w ∷ ws) row e =
    ap (λ (s : List ℕ). take w (drop at row) ++ s) (cut_joined (at + w) ws row (omega arith) ∙ sym (drop-drop w at row))
    ∙ take-append-drop w (drop at row)

-- pieces joined and cut are the same pieces
pub joined_cut : (front : List ℕ) (ps : List (List ℕ)) (at : ℕ) → at ≡ length front → cut_from at (widths_of ps) (front ++ joined ps) ≡ ps
unfolding joined
joined_cut front [] at e = refl
joined_cut front (p ∷ ps) at e =
    let d : drop at (front ++ (p ++ joined ps)) ≡ p ++ joined ps = rw e (drop-append_seam front (p ++ joined ps)) in
    let h : take (length p) (drop at (front ++ (p ++ joined ps))) ≡ p = rw d (take-append_seam p (joined ps)) in
    let r : cut_from (at + length p) (widths_of ps) (front ++ (p ++ joined ps)) ≡ ps =
    rw (sym (append_assoc front p (joined ps))) (joined_cut (front ++ p) ps (at + length p) (omega (arith, length-append front p))) in
    rw (h, r)
