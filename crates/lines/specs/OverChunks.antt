-- What `any` over the whole chunks of a text answers, where the closure computes a test of a chunk. Assumes nothing.
use Rattle.std.specs.Prelude.{◌≡◌, Bool, true, false, ℕ, ◌+◌, ◌*◌, ◌/◌, ◌≤◌, ◌<◌, List, length, take, drop, Option, Some, None, IfSome, IsSomeAnd, IsTrue}
use Rattle.std.proofs.Common.{sym, ap, ◌∙◌, subst, arith, add-mul, inl, inr}
use Rattle.std.proofs.lemmas.Nat.{le-div}
use Rattle.std.proofs.lemmas.Option.{slice_get_cases}
use Rattle.std.specs.Bool.{MatchBool}
use Rattle.std.specs.Fn.{Called}
use Rattle.std.specs.Iterator.Runs.{Run, YieldsRun, SomeRun, EveryRun, IsChunksExactRun, AnyItemGives, AllItemsGive, CallKeepsClosure}
use Rattle.std.specs.Slice.Iter.{chunks_exact_rest, chunks_exact_size, chunks_exact_steps}
use Rattle.std.specs.declared.slice.ChunksExact.{ChunksExact}
use denote.Param.Members.{Mut}
use denote.Ref.{Bor}
use Rattle.lines.specs.Below.{some_below}
use Rattle.lines.specs.BelowLaws.{some_each, some_hit}

-- chunk k of n bytes
abbrev pub chunk_of : ℕ → List ℕ → ℕ → List ℕ
chunk_of n s k = take n (drop (k * n) s)

-- an item that has both
some_both : {A : Type 0} (o : Option A) (P Q : A → Type 0) → IfSome o P → IsSomeAnd o Q → (x : A) × (P x × Q x)
some_both (Some x) P Q p q = (x, (p, q))
some_both None P Q p q = absurd q

-- a run has an item at each of its places
there : {S A : Type 0} {steps : S → Option A → S → Type 0} (q : Run steps) (k : ℕ) → k < q.len → (x : A) × (q.at k ≡ Some x)
unfolding YieldsRun
there q k h = elim (slice_get_cases q.items k).1 [ inl w ↦ (w.0, q.gave.1 k ∙ w.2) | inr w ↦ absurd (omega (arith, q.long, h, w.0)) ]

of_some : {A : Type 0} (o : Option A) (x : A) (P : A → Type 0) → o ≡ Some x → IfSome o P → P x
of_some o x P e p = rw e at p

module _ (n : ℕ) (s : List ℕ) (p : List ℕ → Bool) where
  pub any_chunk : {F : Type 0} {g : Mut F (Bor (List ℕ) × Unit {0}) Bool} (c : ChunksExact ℕ) (f : F) (r : Bool)
      → chunks_exact_rest c ≡ s → chunks_exact_size c ≡ n → 0 < n
      → EveryRun (chunks_exact_steps {A = ℕ}) (λ q. 0 < chunks_exact_size q.from → IsChunksExactRun q (chunks_exact_size q.from) (chunks_exact_rest q.from))
      → SomeRun (chunks_exact_steps {A = ℕ}) c (λ q. MatchBool r (AnyItemGives q g f true) (IsTrue q.whole × AllItemsGive q g f false))
      → ((x : Bor (List ℕ)) (b : Bool) (j : F) → Called g f (x, tt) b j → (j ≡ f) × (b ≡ p x.now)) → r ≡ some_below (length s / n) (λ k. p (chunk_of n s k))
  any_chunk {F} {g} c f r rest size some every ran each = go r ran.2
    where
      q : Run (chunks_exact_steps {A = ℕ})
      q = ran.0

      sized : chunks_exact_size q.from ≡ n
      sized = ap chunks_exact_size ran.1 ∙ size

      chunks : IsChunksExactRun q n s
      chunks = subst (λ (t : List ℕ). IsChunksExactRun q n t) (ap chunks_exact_rest ran.1 ∙ rest) (subst (λ (m : ℕ). IsChunksExactRun q m (chunks_exact_rest q.from)) sized (every q q.seen (omega (arith, sized))))

      keeps : CallKeepsClosure g f
      keeps a b j called = (each a.0 b j called).0

      tested : (x : Bor (List ℕ)) (b : Bool) (k : ℕ) → Called g f (x, tt) b f → x.now ≡ chunk_of n s k → p (chunk_of n s k) ≡ b
      tested x b k called e = ap p (sym e) ∙ sym (each x b f called).1

      go : (b : Bool) → MatchBool b (AnyItemGives q g f true) (IsTrue q.whole × AllItemsGive q g f false) → b ≡ some_below (length s / n) (λ k. p (chunk_of n s k))
      go true h =
          let a = h keeps in
          let b = some_both (q.at a.0) _ _ (chunks.2 a.0) a.2 in
          let within : a.0 + 1 ≤ length s / n = le-div (a.0 + 1) (length s) n some (omega (arith, b.1.0.1, add-mul a.0 1 n)) in
          sym (some_hit _ _ a.0 (omega arith) (tested b.0 true a.0 b.1.1 b.1.0.2.0))
      go false h =
          let long = chunks.1 h.0 in
          sym (some_each _ _ (λ k l.
          let x = there q k (omega (arith, long, l)) in
          tested x.0 false k (of_some (q.at k) x.0 _ x.1 (h.1 keeps k)) (of_some (q.at k) x.0 _ x.1 (chunks.2 k)).2.0))
