use Rattle.std.proofs.Common.{◌-◌, ◌+◌, ◌/◌, ◌≡◌, arith}
use Rattle.job_line.specs.Line.{digit_count}
use Rattle.job_line.specs.LineLaws.{count_more, count_last, count_one}
use Rattle.job_line.proofs.number.digit_count.Goals as goal

pub returns-then-rest-lt10 : goal.returns-then-rest-lt10
returns-then-rest-lt10 c =
    let l = c.loop-digits in
    omega (arith, count_last (21 - l.digits) l.rest (omega arith) (omega arith), l.invariant)

pub loop-digits-preserved : goal.loop-digits-preserved
loop-digits-preserved c =
    let l = c.loop-digits in
    let more : digit_count (21 - l.digits) l.rest ≡ digit_count (21 - l.digits - 1) (l.rest / 10) + 1 = count_more (21 - l.digits) l.rest (omega arith) (omega arith) in
    let e : 21 - l.digits - 1 ≡ 21 - (l.digits + 1) = omega arith in
    omega (arith, rw e at more, l.invariant)

pub returns : goal.returns
returns c =
    let l = c.loop-digits in
    omega (arith, count_one (21 - l.digits) l.rest (omega arith), l.invariant)
