use Rattle.std.proofs.Common.{arith, ◌≡◌, ℕ, ◌+◌, ◌-◌, List, ◌++◌, Option, sym, ap, ◌∙◌, subst, length, take, drop, length-drop}
use Rattle.std.proofs.lemmas.List.{take-append-drop}
use lib.Seq.{take-add, take-length}
use Rattle.std.specs.Io.KnownBytes.{Appends}
use Rattle.std.proofs.KnownBytes.{Appends-trans, Appends-kept}
use Rattle.buffers.specs.Writes.{AppendsFront}
use Rattle.buffers.proofs.Stopped.{on_any_err}
use Rattle.buffers.proofs.writing.write_full.Goals as goal

-- what a write is given: all of s from a place on
given : (s : List ℕ) (a : ℕ) → take (length s - a) (drop a s) ≡ drop a s
given s a = ap (λ m. take m (drop a s)) (sym (length-drop a s)) ∙ take-length (drop a s)

-- the front of s grows by what a write took
grown : (s : List ℕ) (a n : ℕ) → take (a + n) s ≡ take a s ++ take n (take (length s - a) (drop a s))
grown s a n = take-add a n s ∙ ap (λ l. take a s ++ take n l) (sym (given s a))

-- writing stopped at a place of s
stopped : (old new : Option (List ℕ)) (s : List ℕ) (a : ℕ) → Appends old new (take a s) → AppendsFront old new s
stopped old new s a h = record { front = take a s; rest = drop a s; whole = sym (take-append-drop a s); appended = h }

pub returns-in_err-n-clause-err : goal.returns-in_err-n-clause-err
returns-in_err-n-clause-err g c =
    on_any_err c.from_residual.result (stopped _ _ c.args.s.now c.loop-done.done (Appends-kept _ _ _ _ c.loop-done.invariant.written c.in_err-n.ensures.bytes))

pub returns-then-n-eq0-clause-err : goal.returns-then-n-eq0-clause-err
returns-then-n-eq0-clause-err g c =
    let a = c.loop-done.done in
    let n = c.in_ok-n.n in
    stopped _ _ c.args.s.now (a + n) (subst (Appends _ _) (sym (grown c.args.s.now a n)) (Appends-trans _ _ _ _ _ c.loop-done.invariant.written c.in_ok-n.ensures.bytes))

pub loop-done-preserved : goal.loop-done-preserved
loop-done-preserved g c =
    let s = c.args.s.now in
    let a = c.loop-done.done in
    let n = c.in_ok-n.n in
    record {
      within = omega (arith, c.in_ok-n.ensures.bound, ap length (given s a), length-drop a s, c.loop-done.invariant.within);
      written = subst (Appends _ _) (sym (grown s a n)) (Appends-trans _ _ _ _ _ c.loop-done.invariant.written c.in_ok-n.ensures.bytes);
    }
