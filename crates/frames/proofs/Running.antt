-- How cases that were run are put together. Assumes nothing.
use Rattle.std.proofs.Common.{◌≡◌, ℕ, ◌+◌, ◌<◌, Bool, true, List, [], ◌∷◌, ◌++◌, Option, Some, Result, Ok, Err, MutBor, length, sym, subst, arith}
use Rattle.std.specs.Prelude.{IfErr, IsErrAnd}
use Rattle.std.specs.Fn.{Mut, Called}
use Rattle.std.proofs.lemmas.Fn.{FoldsTo-push}
use Rattle.std.proofs.lemmas.List.{length_push}
use Rattle.frames.specs.Cases.{ReadsKind}
use Rattle.frames.specs.Runs.{State, state_of, RunsCase, RunsCases, Ends, Fails, RunsToEnd, RunsToError}

-- as many cases ran as turns were taken, and each said that more may be read
pub record Ran {R W F E : Type 0} (remaining : R → Option (List ℕ)) (g : Mut F (MutBor R × (MutBor W × (ℕ × Unit {0}))) (Result Bool E × (MutBor R × (MutBor W × Unit {0})))) (p q : State R W F) (turns : ℕ) : Type 0 where
  pub kinds : List ℕ
  pub run : RunsCases remaining g p kinds q
  pub many : length kinds ≡ turns

module _ {R W F E : Type 0} {remaining : R → Option (List ℕ)} {g : Mut F (MutBor R × (MutBor W × (ℕ × Unit {0}))) (Result Bool E × (MutBor R × (MutBor W × Unit {0})))} where
  -- the kind was read, and then the closure was called at it and answered
  pub RunsCase-by_call : {p q : State R W F} {given : Result Bool E} {behind : MutBor R} {lent : MutBor W} {left : MutBor R × (MutBor W × Unit {0})} (kind : ℕ) (answer : Result Bool E)
      → ReadsKind (remaining p.reader) (remaining behind.now) (Some kind) → kind < 256
      → Called g p.closure (behind, (lent, (kind, tt))) (given, left) q.closure → given ≡ answer → lent.now ≡ p.writer → (left.0.now ≡ q.reader) × (left.1.0.now ≡ q.writer)
      → RunsCase remaining g p kind answer q
  RunsCase-by_call {p} {q} {given} {behind} {lent} {left} kind answer read byte call is held leaves =
      record {
        behind = behind;
        read = read;
        is_byte = byte;
        lent = lent;
        not_written = held;
        left = left;
        called = subst (λ (r : Result Bool E). Called g p.closure (behind, (lent, (kind, tt))) (r, left) q.closure) is call;
        leaves = leaves;
      }

  module _ {p between : State R W F} {turns : ℕ} (ran : Ran remaining g p between turns) where
    -- one more case
    pub Ran-more : {q : State R W F} {kind : ℕ} → RunsCase remaining g between kind (Ok true) q → Ran remaining g p q (turns + 1)
    Ran-more {q} {kind} next =
        record {
          kinds = ran.kinds ++ (kind ∷ []);
          run = FoldsTo-push (λ a k b. RunsCase remaining g a k (Ok true) b) p ran.kinds between kind q ran.run next;
          many = omega (arith, length_push ran.kinds kind, ran.many);
        }

    -- then the end
    pub RunsToEnd-after : {from : R} {to : W} (last : F) → Ends remaining g between turns (state_of from to last) → RunsToEnd remaining g p from to
    RunsToEnd-after {from} {to} last ended =
        record {
          kinds = ran.kinds;
          between = between;
          run = ran.run;
          last = last;
          ended = subst (λ (n : ℕ). Ends remaining g between n (state_of from to last)) (sym ran.many) ended;
        }

    -- then the error that the result hands on
    pub RunsToError-after : {from : R} {to : W} (last : F) (result : Result (Unit {0}) E) (e : E) → IsErrAnd result (λ x. x ≡ e) → Fails remaining g between e (state_of from to last)
        → IfErr result (λ x. RunsToError remaining g p x from to)
    RunsToError-after last (Ok x) e handed_on failed = tt
    RunsToError-after {from} {to} last (Err x) e handed_on failed =
        record {
          kinds = ran.kinds;
          between = between;
          run = ran.run;
          last = last;
          failed = subst (λ (y : E). Fails remaining g between y (state_of from to last)) (sym handed_on) failed;
        }
