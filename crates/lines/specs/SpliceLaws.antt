-- The laws of a text put into a place: nothing put in, two side by side, one byte, and the turns of a loop that writes. Assumes nothing.
use Rattle.std.specs.Prelude.{◌≡◌, refl, List, [], ◌∷◌, ◌++◌, ℕ, suc, ◌+◌, ◌≤◌, ◌<◌, length, take, drop, set, get_or}
use Rattle.std.proofs.Common.{sym, ap, ◌∙◌, append-nil, append_assoc, add-zero, zero-add, add_assoc, add-one, arith, length-append, length-drop, take-append-drop, length-set, length-take-le, take_at, drop-drop, drop-cons, get_or-set_same, drop-set-lt}
use Rattle.std.proofs.lemmas.List.{set_split, take-set-le}
use Rattle.std.proofs.lemmas.Slice.{put_mid-paste}
use Rattle.std.proofs.Math.Seq.{append_snoc, paste-suc, drop-length, drop-append-add, take-length}
use borrow.Rule.Slice.PartMut.{put_mid}
use Rattle.lines.specs.Splice.{splice, Put}

-- nothing put in
pub splice_nil : (xs : List ℕ) (at : ℕ) → splice xs at [] ≡ xs
unfolding splice
splice_nil xs at = rw (add-zero at, append-nil (take at xs)) (take-append-drop at xs)

-- what stands before the end of the part
front_length : (xs : List ℕ) (at : ℕ) (ys : List ℕ) → at ≤ length xs → length (take at xs ++ ys) ≡ at + length ys
front_length xs at ys h = length-append (take at xs) ys ∙ ap (λ (k : ℕ). k + length ys) (length-take-le at xs h)

pub splice_length : (xs : List ℕ) (at : ℕ) (ys : List ℕ) → at + length ys ≤ length xs → length (splice xs at ys) ≡ length xs
unfolding splice
splice_length xs at ys h =
    let a : at ≤ length xs = omega arith in
    length-append (take at xs ++ ys) (drop (at + length ys) xs)
    ∙ omega (arith, front_length xs at ys a, length-drop (at + length ys) xs)

-- two parts side by side are one
pub splice_join : (xs : List ℕ) (at : ℕ) (ys : List ℕ) (zs : List ℕ) → at + length ys ≤ length xs
    → splice (splice xs at ys) (at + length ys) zs ≡ splice xs at (ys ++ zs)
unfolding splice
splice_join xs at ys zs h =
    let a : at ≤ length xs = omega arith in
    let n : ℕ = at + length ys in
    let f : List ℕ = take at xs ++ ys in
    let e : length f ≡ n = front_length xs at ys a in
    ap (λ (l : List ℕ). l ++ zs ++ drop (n + length zs) (f ++ drop n xs)) (take_at f (drop n xs) n e)
    ∙ ap (λ (l : List ℕ). f ++ zs ++ l)
    (ap (λ (k : ℕ). drop (k + length zs) (f ++ drop n xs)) (sym e) ∙ drop-append-add f (drop n xs) (length zs) ∙ drop-drop (length zs) n xs)
    ∙ ap (λ (l : List ℕ). l ++ drop (n + length zs) xs) (append_assoc (take at xs) ys zs)
    ∙ ap (λ (k : ℕ). take at xs ++ (ys ++ zs) ++ drop k xs) (add_assoc at (length ys) (length zs) ∙ ap (λ (k : ℕ). at + k) (sym (length-append ys zs)))

-- the same, where the code has computed the second place
pub splice_next : (xs : List ℕ) (at : ℕ) (ys : List ℕ) (zs : List ℕ) (next : ℕ) → next ≡ at + length ys → at + length ys ≤ length xs
    → splice (splice xs at ys) next zs ≡ splice xs at (ys ++ zs)
splice_next xs at ys zs next e h = ap (λ (k : ℕ). splice (splice xs at ys) k zs) e ∙ splice_join xs at ys zs h

-- from 0 on
pub splice_zero : (xs ys : List ℕ) → splice xs 0 ys ≡ ys ++ drop (length ys) xs
unfolding splice
splice_zero xs ys = rw (zero-add (length ys))

-- over everything
pub splice_whole : (xs ys : List ℕ) → length ys ≡ length xs → splice xs 0 ys ≡ ys
splice_whole xs ys e = splice_zero xs ys ∙ rw (e, drop-length) (append-nil ys)

-- one store
pub splice_one : (xs : List ℕ) (at b : ℕ) → at < length xs → set xs at b ≡ splice xs at (b ∷ [])
unfolding splice
splice_one xs at b h = set_split xs at b h ∙ sym (append_snoc (take at xs) b (drop (suc at) xs)) ∙ rw (add-one at)

-- a store right behind the part, and then the part: one part. What a loop from right to left wants
pub splice_back : (xs : List ℕ) (at : ℕ) (ys : List ℕ) (b n : ℕ) → n ≡ at + length ys → at + length ys < length xs
    → splice (set xs n b) at ys ≡ splice xs at (ys ++ (b ∷ []))
unfolding splice
splice_back xs at ys b n e h =
    let le : at ≤ n = omega arith in
    let lt : n < length xs = omega arith in
    let lt' : n < length (set xs n b) = rw length-set lt in
    let d : drop n (set xs n b) ≡ b ∷ drop (suc n) xs =
    drop-cons (set xs n b) n 0 lt'
    ∙ ap (λ (x : ℕ). x ∷ drop (suc n) (set xs n b)) (get_or-set_same xs n b 0 lt)
    ∙ ap (λ (l : List ℕ). b ∷ l) (drop-set-lt (suc n) xs n b (omega arith)) in
    let k : at + length (ys ++ (b ∷ [])) ≡ suc n = omega (arith, length-append ys (b ∷ [])) in
    ap (λ (l : List ℕ). l ++ ys ++ drop (at + length ys) (set xs n b)) (take-set-le at xs n b le)
    ∙ ap (λ (m : ℕ). take at xs ++ ys ++ drop m (set xs n b)) (sym e)
    ∙ ap (λ (l : List ℕ). take at xs ++ ys ++ l) d
    ∙ sym (append_snoc (take at xs ++ ys) b (drop (suc n) xs))
    ∙ ap (λ (l : List ℕ). l ++ drop (suc n) xs) (append_assoc (take at xs) ys (b ∷ []))
    ∙ ap (λ (m : ℕ). take at xs ++ (ys ++ (b ∷ [])) ++ drop m xs) (sym k)

-- a turn of a loop that copies
pub splice_take_zero : (xs : List ℕ) (at : ℕ) (s : List ℕ) → xs ≡ splice xs at (take 0 s)
splice_take_zero xs at s = sym (splice_nil xs at)

pub splice_take_more : (xs : List ℕ) (at : ℕ) (s : List ℕ) (j : ℕ) → at + j < length xs → j < length s
    → set (splice xs at (take j s)) (at + j) (get_or s j 0) ≡ splice xs at (take (j + 1) s)
unfolding splice
splice_take_more xs at s j h k =
    let l : length (take j s) ≡ j = length-take-le j s (omega arith) in
    let l' : length (take (suc j) s) ≡ suc j = length-take-le (suc j) s (omega arith) in
    rw (add-one j, l, l') (paste-suc xs at s j 0 h k)

-- a part that was written over with a text
pub put_over : (text : List ℕ) (at n r : ℕ) (out part : List ℕ) → part ≡ text → n ≡ length text → r ≡ at + length text → Put text at out r (put_mid at n out part)
unfolding splice
put_over text at n r out part e f g =
    record {
      place = g;
      spliced = put_mid-paste at n out part text (length text) e (sym f) refl ∙ rw (take-length text);
    }

-- ---- one put after the other
pub put_none : (at : ℕ) (out : List ℕ) → Put [] at out at out
put_none at out = record { place = sym (add-zero at); spliced = sym (splice_nil out at) }

pub put_more : (ys zs : List ℕ) (at mid r : ℕ) (out out₁ out₂ : List ℕ) → at + length ys ≤ length out
    → Put ys at out mid out₁ → Put zs mid out₁ r out₂ → Put (ys ++ zs) at out r out₂
put_more ys zs at mid r out out₁ out₂ h p q =
    record {
      place = omega (arith, p.place, q.place, length-append ys zs);
      spliced =
          q.spliced
          ∙ ap (λ (o : List ℕ). splice o mid zs) p.spliced
          ∙ splice_next out at ys zs mid p.place h;
    }

pub put_length : (ys : List ℕ) (at r : ℕ) (out out' : List ℕ) → at + length ys ≤ length out → Put ys at out r out' → length out' ≡ length out
put_length ys at r out out' h p = ap length p.spliced ∙ splice_length out at ys h
