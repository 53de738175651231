-- `before` is a strict order of texts of one length: no text stands before itself, what is before what is before is before, and of two different texts one is before the other.
-- Assumes nothing.
use Rattle.std.specs.Prelude.{◌≡◌, refl, Bool, true, false, not, ◌&&◌, List, ℕ, ◌≤◌, ◌<◌, length, get_or, eqb, ltb}
use Rattle.std.proofs.Common.{sym, ap, ◌∙◌, ⊎_elim, true≢false, eq-or-lt_of_le, arith, eqb-true, ltb-true, ltb-false, lt-ltb, eq-eqb, ne_eqb}
use Rattle.std.proofs.lemmas.Bool.{eqb-false, not-false, not-true}
use Rattle.lines.specs.BelowLaws.{some_each, first_before, first_hit, first_found}
use Rattle.lines.specs.BoolLaws.{and_left, and_right, and_true}
use Rattle.lines.specs.Same.{differ_at, first_difference, same, before}
use Rattle.lines.specs.SameLaws.{difference_le, same_is}

-- one number is below another, or it is not
pub either_side : {C : Type 0} (i j : ℕ) → (i < j → C) → (j ≤ i → C) → C
either_side {C} i j less rest = go (ltb i j) refl
  where
    go : (t : Bool) → ltb i j ≡ t → C
    go true e = less (ltb-true i j e)
    go false e = rest (ltb-false i j e)

-- a is alike b up to a place, and smaller there
pub record Earlier (a b : List ℕ) : Type 0 where
  pub place : ℕ
  pub inside : place < length a
  pub alike : (i : ℕ) → i < place → get_or a i 0 ≡ get_or b i 0
  pub less : get_or a place 0 < get_or b place 0

-- no difference before the first
pub alike_before : (a b : List ℕ) (i : ℕ) → i < first_difference a b → get_or a i 0 ≡ get_or b i 0
unfolding first_difference differ_at
alike_before a b i h = eqb-true (get_or a i 0) (get_or b i 0) (not-false (eqb (get_or a i 0) (get_or b i 0)) (first_before (differ_at a b) (length a) i h))

pub before_is : (a b : List ℕ) → before a b ≡ true → Earlier a b
unfolding before
before_is a b e =
    let d = first_difference a b in
    let x = ltb d (length a) in
    let y = ltb (get_or a d 0) (get_or b d 0) in
    record {
      place = d;
      inside = ltb-true d (length a) (and_left x y e);
      alike = alike_before a b;
      less = ltb-true (get_or a d 0) (get_or b d 0) (and_right x y e);
    }

-- the first difference is where they are alike before and not there
first_is_place : (a b : List ℕ) (k : ℕ) → k < length a → ((i : ℕ) → i < k → get_or a i 0 ≡ get_or b i 0) → (get_or a k 0 ≡ get_or b k 0 → ⊥) → first_difference a b ≡ k
unfolding first_difference differ_at
first_is_place a b k h alike other =
    first_hit (differ_at a b) (length a) k h
    (some_each (differ_at a b) k (λ i l. ap not (eq-eqb (get_or a i 0) (get_or b i 0) (alike i l))))
    (ap not (ne_eqb (get_or a k 0) (get_or b k 0) other))

pub before_yes : (a b : List ℕ) → Earlier a b → before a b ≡ true
unfolding before
before_yes a b e =
    let k = e.place in
    let d : first_difference a b ≡ k = first_is_place a b k e.inside e.alike (λ z. omega (arith, e.less)) in
    rw (d, lt-ltb k (length a) e.inside, lt-ltb (get_or a k 0) (get_or b k 0) e.less)

-- ---- a strict order
pub before_itself : (a : List ℕ) → before a a ≡ false
before_itself a = go (before a a) refl
  where
    go : (t : Bool) → before a a ≡ t → t ≡ false
    go true e = absurd (omega (arith, (before_is a a e).less))
    go false e = refl

pub before_trans : (a b d : List ℕ) → length a ≡ length b → before a b ≡ true → before b d ≡ true → before a d ≡ true
before_trans a b d l e f = before_yes a d (go (before_is a b e) (before_is b d f))
  where
    go : Earlier a b → Earlier b d → Earlier a d
    go x y = pick (ltb x.place y.place) refl
      where
        -- where the second difference does not come after the first, what is there
        least : y.place ≤ x.place → get_or a y.place 0 < get_or d y.place 0
        least h =
            ⊎_elim
            (λ z. omega (arith, y.less, x.less, ap (λ (k : ℕ). get_or a k 0) z, ap (λ (k : ℕ). get_or b k 0) z))
            (λ m. omega (arith, y.less, x.alike y.place m))
            (eq-or-lt_of_le h)

        pick : (t : Bool) → ltb x.place y.place ≡ t → Earlier a d
        pick true z =
            let h : x.place < y.place = ltb-true x.place y.place z in
            record {
              place = x.place;
              inside = x.inside;
              alike = λ i m. x.alike i m ∙ y.alike i (omega arith);
              less = omega (arith, x.less, y.alike x.place h);
            }
        pick false z =
            let h : y.place ≤ x.place = ltb-false x.place y.place z in
            record {
              place = y.place;
              inside = omega (arith, y.inside);
              alike = λ i m. x.alike i (omega arith) ∙ y.alike i m;
              less = least h;
            }

pub before_total : (a b : List ℕ) → length a ≡ length b → same a b ≡ false → before a b ≡ false → before b a ≡ true
unfolding same before first_difference differ_at
before_total a b l s n =
    let d = first_difference a b in
    let inside : d < length a = differs d refl in
    let other = first_found (differ_at a b) (length a) inside in
    before_yes b a
    (record {
      place = d;
      inside = omega arith;
      alike = λ i h. sym (alike_before a b i h);
      less = omega (arith, smaller d refl inside, eqb-false (get_or a d 0) (get_or b d 0) (not-true (eqb (get_or a d 0) (get_or b d 0)) other));
    })
  where
    differs : (d : ℕ) → first_difference a b ≡ d → d < length a
    differs d e = omega (arith, difference_le a b, unlike)
      where
        unlike : first_difference a b ≡ length a → ⊥
        unlike z = true≢false (sym (and_true (eqb (length a) (length b)) (eqb (first_difference a b) (length a)) (eq-eqb (length a) (length b) l) (eq-eqb (first_difference a b) (length a) z)) ∙ s)

    smaller : (d : ℕ) → first_difference a b ≡ d → d < length a → get_or b d 0 ≤ get_or a d 0
    smaller d e h = go (ltb (get_or a d 0) (get_or b d 0)) refl
      where
        go : (t : Bool) → ltb (get_or a d 0) (get_or b d 0) ≡ t → get_or b d 0 ≤ get_or a d 0
        go true z = absurd (true≢false (sym (before_at z) ∙ n))
          where
            before_at : ltb (get_or a d 0) (get_or b d 0) ≡ true → (ltb (first_difference a b) (length a) && ltb (get_or a (first_difference a b) 0) (get_or b (first_difference a b) 0)) ≡ true
            before_at q = rw (e, lt-ltb d (length a) h, q)
        go false z = ltb-false (get_or a d 0) (get_or b d 0) z

-- two texts that are the same are not before each other
pub same_not_before : (a b : List ℕ) → before a b ≡ true → same a b ≡ false
same_not_before a b e = go (same a b) refl
  where
    go : (t : Bool) → same a b ≡ t → t ≡ false
    go true s = absurd (true≢false (sym (ap (before a) (same_is a b s) ∙ e) ∙ before_itself a))
    go false s = refl

pub after_not_same : (a b : List ℕ) → before b a ≡ true → same a b ≡ false
after_not_same a b e = go (same a b) refl
  where
    go : (t : Bool) → same a b ≡ t → t ≡ false
    go true s = absurd (true≢false (sym e ∙ ap (before b) (same_is a b s) ∙ before_itself b))
    go false s = refl
