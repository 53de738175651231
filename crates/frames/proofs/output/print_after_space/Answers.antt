use Rattle.std.proofs.Common.{ℕ, List, [], ◌∷◌, Option, Result, Ok, Err, OnErr, ap}
use Rattle.std.specs.Prelude.{decimal}
use Rattle.std.specs.Io.KnownBytes.{Appends}
use Rattle.std.proofs.KnownBytes.{Appends-nil, Appends-trans}
use Rattle.buffers.specs.Writes.{AppendsFront}
use Rattle.buffers.proofs.Stopped.{on_any_err, stopped_within}
use Rattle.frames.proofs.output.print_after_space.Goals as goal

-- the space was written whole, and then the front of bs
after_space : (a b c : Option (List ℕ)) (bs : List ℕ) → Appends a b (32 ∷ []) → AppendsFront b c bs → AppendsFront a c (32 ∷ bs)
after_space a b c bs written f =
    record {
      front = 32 ∷ f.front;
      rest = f.rest;
      whole = ap (λ (l : List ℕ). 32 ∷ l) f.whole;
      appended = Appends-trans a b c (32 ∷ []) f.front written f.appended;
    }

-- an error says as much of the whole as of its part
at_err : {T E P Q : Type 0} (r : Result T E) → (P → Q) → OnErr r P → OnErr r Q
at_err (Ok x) f p = tt
at_err (Err e) f p = f p

pub returns-in_err-print_bytes-clause-err : goal.returns-in_err-print_bytes-clause-err
returns-in_err-print_bytes-clause-err g c =
    on_any_err c.from_residual.result (stopped_within _ _ _ [] (32 ∷ []) (decimal c.args.n) (Appends-nil _) c.in_err-print_bytes.ensures.err)

pub returns-clause-err : goal.returns-clause-err
returns-clause-err g c =
    at_err c.print_number.result (after_space _ _ _ (decimal c.args.n) c.in_ok-print_bytes.ensures.ok) c.print_number.ensures.err
