use native.Mathlib.Omega.{arith}
use Prim.Native.Nat.{◌≤◌}
use mathlib.Core.Path.{◌≡◌, ap}
use mathlib.Core.Bool.{true}
use Rattle.judging.specs.Sums.{count_of}
use Rattle.judging.specs.SumsLaws.{count_within}
use Rattle.judging.specs.declared.sums.Sums.{Sums}
use Rattle.answers.proofs.outcome.summarize.Goals as goal
use Rattle.answers.proofs.outcome.summarize.Goals.{After-sums_of-sums}

-- no more are refused than there are lines
refused_few : (c : After-sums_of-sums) → c.sums_of-sums.result.refused.count.0 ≤ 9999
refused_few c =
    let e : c.sums_of-sums.result.refused.count.0 ≡ count_of true c.args.words.now = ap (λ (t : Sums). t.refused.count.0) c.sums_of-sums.ensures in
    omega (arith, e, count_within true c.args.words.now, c.requires.few)

pub overflow_mul-result : goal.overflow_mul-result
overflow_mul-result c = omega (arith, refused_few (goal.at.overflow_mul-result c).After-sums_of-sums)

pub overflow_add-result : goal.overflow_add-result
overflow_add-result c = omega (arith, refused_few (goal.at.overflow_add-result c).After-sums_of-sums)

pub overflow_add-result-2 : goal.overflow_add-result-2
overflow_add-result-2 c = omega (arith, refused_few (goal.at.overflow_add-result-2 c).After-sums_of-sums)

pub returns : goal.returns
returns c = rw (c.judged_answer.ensures, c.side_of.ensures, c.sums_of-sums.ensures)
