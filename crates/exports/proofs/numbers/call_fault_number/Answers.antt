use native.Mathlib.Omega.{arith}
use Rattle.exports.specs.CallsLaws.{call_fault_small}
use Rattle.exports.proofs.numbers.call_fault_number.Goals as goal

pub overflow_cast-result : goal.overflow_cast-result
overflow_cast-result c = record { fits = omega (arith, call_fault_small c.args.fault, c.from.ensures) }
