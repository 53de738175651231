use mathlib.Core.Path.{◌≡◌, sym, ap, ◌∙◌}
use mathlib.Core.Bool.{Bool}
use mathlib.Core.List.{List}
use Prim.Native.Nat.{ℕ}
use Rattle.std.proofs.Common.{Ok}
use Rattle.tst.specs.Stations.{is_known_station}
use Rattle.verdicts.specs.LineTests.{test_line}
use Rattle.judging.specs.Judging.{test_on}
use Rattle.judging.specs.Steps.{judged_by}
use Rattle.judging.proofs.JudgedLaws.{fails_judged, passes_judged}
use Rattle.judging.proofs.line.Judging.judge_line.Goals as goal
use Rattle.judging.proofs.line.Judging.judge_line.Goals.{After-test_line}

-- what the tests of the line say
told : (c : After-test_line) → let a = c.args in
    c.test_line.result ≡ test_on (judged_by a.self.now) a.k
told c =
    let a = c.args in
    c.test_line.ensures
    ∙ ap (λ (known : Bool). test_line a.self.now.side a.self.now.sender.now known c.tif_line-line.result.now) c.is_known_station-known.ensures
    ∙ ap (λ (line : List ℕ). test_line a.self.now.side a.self.now.sender.now (is_known_station a.self.now.tst.now line) line) c.tif_line-line.ensures

pub returns-in-Err : goal.returns-in-Err
returns-in-Err c = fails_judged _ _ _ _ (sym (told (goal.at.returns-in-Err c).After-test_line) ∙ c.in-Err.is)

pub returns-in-Ok : goal.returns-in-Ok
returns-in-Ok c =
    let a = c.args in
    let e : test_on (judged_by a.self.now) a.k ≡ Ok tt = sym (told (goal.at.returns-in-Ok c).After-test_line) ∙ c.in-Ok.is in
    passes_judged _ _ _ _ _ e c.judge_passed.ensures
