use Rattle.std.proofs.Common.{◌≡◌, ◌+◌, ◌-◌}
use Rattle.job_line.specs.Line.{digit_count}
use Rattle.job_line.proofs.number.digit_count.Given as goal

abbrev pub invariant-loop-digits : goal.invariant-loop-digits
invariant-loop-digits l = digit_count (21 - l.digits) l.rest + l.digits ≡ digit_count 20 l.value + 1
