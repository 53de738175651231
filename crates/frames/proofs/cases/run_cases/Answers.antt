use Rattle.std.proofs.Common.{of_calls, ◌≡◌, true, false, Ok, Err, refl, ap, ◌∙◌, sym, subst, inl, inr, arith}
use Rattle.std.proofs.lemmas.Grind.{common_steps}
use Rattle.frames.specs.Cases.{ReadsKind}
use Rattle.frames.specs.Runs.{state_of}
use Rattle.frames.proofs.Running.{RunsCase-by_call, Ran-more, RunsToEnd-after, RunsToError-after}
use Rattle.frames.proofs.cases.run_cases.Goals.{else-loop-test, then-loop-test+in_ok-kind+in_default, then-loop-test+in_ok-kind+in-Some+in_ok-run_case+then-not-branch}
use Rattle.frames.proofs.cases.run_cases.Goals as goal

pub returns-in_err-kind-clause-err : goal.returns-in_err-kind-clause-err
returns-in_err-kind-clause-err g c =
    RunsToError-after c.loop.invariant.ran c.loop.run_case c.from_residual.result c.in_err-kind.field-0.0 c.from_residual.ensures.1
    (inl (c.in_err-kind.ensures.err, record { not_written = refl {a = c.loop.to}; not_called = refl {a = c.loop.run_case} }))

pub returns-in_err-run_case-clause-err : goal.returns-in_err-run_case-clause-err
returns-in_err-run_case-clause-err g c =
    let kind = c.in-Some.kind in
    let e = c.in_err-run_case.field-0.0 in
    let read = subst (ReadsKind _ _) c.in-Some.is c.in_ok-kind.ensures.ok in
    RunsToError-after c.loop.invariant.ran c.run_case.new.self c.from_residual-in_err-run_case.result e c.from_residual-in_err-run_case.ensures.1
    (inr (kind, RunsCase-by_call kind (Err e) read (omega arith) c.run_case.ensures c.in_err-run_case.was refl (refl, refl)))

pub loop-preserved : goal.loop-preserved
loop-preserved g c =
    let kind = c.in-Some.kind in
    let read = subst (ReadsKind _ _) c.in-Some.is c.in_ok-kind.ensures.ok in
    let more : c.run_case.result ≡ Ok true = c.in_ok-run_case.was ∙ ap Ok c.if-not-branch.false in
    record {
      callable = search of_calls;
      empty = grind (arith, common_steps);
      ran = Ran-more c.loop.invariant.ran (RunsCase-by_call kind (Ok true) read (omega arith) c.run_case.ensures more refl (refl, refl));
    }

pub returns-clause-ok : goal.returns-clause-ok
returns-clause-ok g c =
    let ran = c.loop.invariant.ran in
    elim c.loop-test.branch [
      | else-loop-test w ↦ RunsToEnd-after ran c.loop.run_case (inr (inr (omega arith, λ i. state_of (w.from-is i) (w.to-is i) c.loop.run_case)))
      | then-loop-test+in_ok-kind+in_default w ↦
          let read = subst (ReadsKind (g.R.Read.remaining c.loop.from) _) w.in_default.is w.in_ok-kind.ensures.ok in
          RunsToEnd-after ran c.loop.run_case (inl (read, record { not_written = w.to-is; not_called = refl {a = c.loop.run_case} }))
      | then-loop-test+in_ok-kind+in-Some+in_ok-run_case+then-not-branch w ↦
          let kind = w.in-Some.kind in
          let read = subst (ReadsKind _ _) w.in-Some.is w.in_ok-kind.ensures.ok in
          let no_more : w.run_case.result ≡ Ok false = w.in_ok-run_case.was ∙ ap Ok w.if-not-branch.true in
          RunsToEnd-after ran w.run_case.new.self (inr (inl (kind, RunsCase-by_call kind (Ok false) read (omega arith) w.run_case.ensures no_more refl (sym w.from-is, sym w.to-is))))
    ]
