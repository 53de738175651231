-- What running cases reads, calls and leaves, over any reader, writer and closure. Assumes nothing.
use Rattle.std.specs.Prelude.{◌≡◌, ◌⊎◌, ℕ, ◌-◌, ◌^◌, ◌<◌, Bool, true, false, List, Option, Some, None, Result, Ok, Err, length}
use Rattle.std.specs.Borrow.{MutBor}
use Rattle.std.specs.Fn.{Mut, Called}
use Rattle.std.specs.List.{FoldsTo}
use Rattle.buffers.specs.Reads.{LosesAtMost}
use Rattle.frames.specs.Cases.{ReadsKind}

-- the reader, the writer and the closure as they are between two cases
pub record State (R W F : Type 0) : Type 0 where
  pub reader : R
  pub writer : W
  pub closure : F

abbrev pub state_of : {R W F : Type 0} → R → W → F → State R W F
state_of from to run_case = record { reader = from; writer = to; closure = run_case }

module _ {R W F E : Type 0} (remaining : R → Option (List ℕ)) (g : Mut F (MutBor R × (MutBor W × (ℕ × Unit {0}))) (Result Bool E × (MutBor R × (MutBor W × Unit {0})))) where
  -- the kind is read, and the closure is called at it, at the reader behind it and at the writer: it gives answer and leaves q
  pub record RunsCase (p : State R W F) (kind : ℕ) (answer : Result Bool E) (q : State R W F) : Type 0 where
    pub behind : MutBor R
    pub read : ReadsKind (remaining p.reader) (remaining behind.now) (Some kind)
    pub is_byte : kind < 256
    pub lent : MutBor W
    pub not_written : lent.now ≡ p.writer
    pub left : MutBor R × (MutBor W × Unit {0})
    pub called : Called g p.closure (behind, (lent, (kind, tt))) (answer, left) q.closure
    pub leaves : (left.0.now ≡ q.reader) × (left.1.0.now ≡ q.writer)

  -- the cases of these kinds run in this order, and each says that more may be read
  abbrev pub RunsCases : State R W F → List ℕ → State R W F → Type 0
  RunsCases = FoldsTo (λ p kind q. RunsCase p kind (Ok true) q)

  -- nothing is written and the closure is not called
  pub record RunsNothing (p q : State R W F) : Type 0 where
    pub not_written : q.writer ≡ p.writer
    pub not_called : q.closure ≡ p.closure

  -- the input ends, or the next case says that no more is to be read, or there were as many cases as there are turns
  abbrev pub Ends : State R W F → ℕ → State R W F → Type 0
  Ends p turns q =
      (ReadsKind (remaining p.reader) (remaining q.reader) None × RunsNothing p q)
      ⊎ ((kind : ℕ) × RunsCase p kind (Ok false) q)
      ⊎ ((turns ≡ 2 ^ 64 - 1) × (q ≡ p))

  -- the next kind cannot be read, or the next case gives the error
  abbrev pub Fails : State R W F → E → State R W F → Type 0
  Fails p e q =
      (LosesAtMost (remaining p.reader) (remaining q.reader) 1 × RunsNothing p q)
      ⊎ ((kind : ℕ) × RunsCase p kind (Err e) q)

  -- cases run as long as they say that more may be read, and then they end, with this reader and this writer left
  pub record RunsToEnd (p : State R W F) (from : R) (to : W) : Type 0 where
    pub kinds : List ℕ
    pub between : State R W F
    pub run : RunsCases p kinds between
    pub last : F
    pub ended : Ends between (length kinds) (state_of from to last)

  -- cases run as long as they say that more may be read, and then the error comes, with this reader and this writer left
  pub record RunsToError (p : State R W F) (e : E) (from : R) (to : W) : Type 0 where
    pub kinds : List ℕ
    pub between : State R W F
    pub run : RunsCases p kinds between
    pub last : F
    pub failed : Fails between e (state_of from to last)
