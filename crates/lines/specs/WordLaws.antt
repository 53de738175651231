-- Words compare as their bytes do: the order of the numbers is that of the texts. Assumes nothing.
use Rattle.std.specs.Prelude.{◌≡◌, Bool, List, eqb, length, get_or}
use Rattle.std.proofs.Math.Path.{refl}
use Rattle.std.proofs.Common.{sym, ap, ◌∙◌, add-zero, add_assoc, ext_get_or}
use Rattle.std.proofs.Math.Bool.{true, false}
use Prim.Native.Nat.{ℕ, zero, suc, ◌+◌, ◌*◌, ◌<◌}
use native.Mathlib.Omega.{arith}
use Rattle.std.proofs.Math.Dec.{ltb}
use borrow.Author.Tests.{ltb-true, ltb-false, eqb-true, eqb-false, lt-ltb, le-ltb}
use Rattle.lines.specs.BelowLaws.{below_suc, some_each, first_hit}
use Rattle.lines.specs.BoolLaws.{and_false_right}
use Rattle.lines.specs.Same.{differ_at, first_difference, same, before}
use Rattle.lines.specs.SameLaws.{same_is, same_self}
use Rattle.lines.specs.Tests.{tests, eq_not, ne_not}
use Rattle.lines.specs.Word.{word_at, AlikeBefore, Decides}

-- the number of the k bytes from i on, the first of them the highest
unfoldable value_from : List ℕ → ℕ → ℕ → ℕ
value_from s i zero = 0
value_from s i (suc k) = value_from s i k * 256 + get_or s (i + k) 0

word_value : (s : List ℕ) (i : ℕ) → word_at s i ≡ value_from s i 8
unfolding value_from
word_value s i = simp (add-zero, add_assoc) (omega arith)

-- a is alike b up to a place before k, and smaller there
record Smaller (a b : List ℕ) (k : ℕ) : Type 0 where
  place : ℕ
  inside : place < k
  alike : AlikeBefore a b place
  less : get_or a place 0 < get_or b place 0

-- texts of bytes that are alike before i
module _ (a b : List ℕ) (small : (j : ℕ) → get_or a j 0 < 256) (small' : (j : ℕ) → get_or b j 0 < 256) (i : ℕ) (alike : AlikeBefore a b i) where
  value_alike : (k : ℕ) → value_from a i k ≡ value_from b i k → AlikeBefore a b (i + k)
  unfolding value_from
  value_alike zero e j h = alike j (omega arith)
  value_alike (suc k) e j h =
      let front : value_from a i k ≡ value_from b i k = omega (arith, small (i + k), small' (i + k)) in
      below_suc j (i + k) (omega arith) (λ z. rw z (omega arith)) (λ l. value_alike k front j l)

  value_less : (k : ℕ) → value_from a i k < value_from b i k → Smaller a b (i + k)
  unfolding value_from
  value_less zero h = absurd (omega arith)
  value_less (suc k) h = go (λ l. value_less k l) (ltb (value_from a i k) (value_from b i k)) refl
    where
      go : (value_from a i k < value_from b i k → Smaller a b (i + k)) → (t : Bool) → ltb (value_from a i k) (value_from b i k) ≡ t → Smaller a b (i + suc k)
      go ih true t =
          let s = ih (ltb-true _ _ t) in
          record { place = s.place; inside = omega arith; alike = s.alike; less = s.less }
      go ih false t =
          let le = ltb-false (value_from a i k) (value_from b i k) t in
          let front : value_from a i k ≡ value_from b i k = omega (arith, small (i + k), small' (i + k)) in
          record { place = i + k; inside = omega arith; alike = value_alike k front; less = omega arith }

  pub word_alike : word_at a i ≡ word_at b i → AlikeBefore a b (i + 8)
  word_alike e = value_alike 8 (sym (word_value a i) ∙ e ∙ word_value b i)

  word_less : word_at a i < word_at b i → Smaller a b (i + 8)
  word_less h = value_less 8 (omega (arith, word_value a i, word_value b i))

-- where texts are alike up to a place inside them and differ there, the bytes there say which is before
module _ (a b : List ℕ) (p : ℕ) (inside : p < length a) (alike : AlikeBefore a b p) (apart : get_or a p 0 ≡ get_or b p 0 → ⊥) where
  first_place : first_difference a b ≡ p
  unfolding first_difference differ_at
  first_place = first_hit (differ_at a b) (length a) p inside (some_each (differ_at a b) p (λ j h. eq_not _ _ (alike j h))) (ne_not _ _ apart)

  before_place : before a b ≡ ltb (get_or a p 0) (get_or b p 0)
  unfolding before
  before_place = rw (first_place, lt-ltb p (length a) inside)

before_self : (a : List ℕ) → before a a ≡ false
unfolding before
before_self a = and_false_right (ltb (first_difference a a) (length a)) _ (le-ltb (get_or a (first_difference a a) 0) (get_or a (first_difference a a) 0) (omega arith))

-- texts of bytes of one length, and the place of the words that decide
module _ (a b : List ℕ) (small : (j : ℕ) → get_or a j 0 < 256) (small' : (j : ℕ) → get_or b j 0 < 256) (long : length a ≡ length b) (r : ℕ) (d : Decides a b r) where
  equal_texts : word_at a r ≡ word_at b r → a ≡ b
  equal_texts e = ext_get_or 0 a b long (λ j h. word_alike a b small small' r d.alike e j (omega (arith, d.last e)))

  pub word_same : eqb (word_at a r) (word_at b r) ≡ same a b
  word_same = go (eqb (word_at a r) (word_at b r)) (same a b) refl refl
    where
      go : (t u : Bool) → eqb (word_at a r) (word_at b r) ≡ t → same a b ≡ u → t ≡ u
      go true u e f = sym (same_self a b (equal_texts (eqb-true _ _ e))) ∙ f
      go false true e f = absurd (eqb-false _ _ e (ap (λ (s : List ℕ). word_at s r) (same_is a b f)))
      go false false e f = refl

  pub word_before : ltb (word_at a r) (word_at b r) ≡ before a b
  word_before = go (ltb (word_at a r) (word_at b r)) (ltb (word_at b r) (word_at a r)) refl refl
    where
      go : (t u : Bool) → ltb (word_at a r) (word_at b r) ≡ t → ltb (word_at b r) (word_at a r) ≡ u → t ≡ before a b
      go true u e f =
          let s = word_less a b small small' r d.alike (ltb-true _ _ e) in
          sym (before_place a b s.place (omega arith) s.alike (λ z. omega arith) ∙ omega tests)
      go false true e f =
          let s = word_less b a small' small r (λ j h. sym (d.alike j h)) (ltb-true _ _ f) in
          sym (before_place a b s.place (omega arith) (λ j h. sym (s.alike j h)) (λ z. omega arith) ∙ omega tests)
      go false false e f =
          let equal : word_at a r ≡ word_at b r = omega (arith, ltb-false (word_at a r) (word_at b r) e, ltb-false (word_at b r) (word_at a r) f) in
          sym (ap (before a) (sym (equal_texts equal)) ∙ before_self a)
