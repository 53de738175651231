use Rattle.std.proofs.Common.{arith, ◌-◌, take}
use Rattle.job.specs.PrintedLaws.{printed_length}
use Rattle.job_vectors.proofs.run_case.Goals as goal

-- a printed line has at most 133 bytes
pub slice_bounds-print_bytes-end : goal.slice_bounds-print_bytes-end
slice_bounds-print_bytes-end g c = omega (arith, c.answer_job-end.ensures.place, printed_length (take (c.in-Some.size - 0) c.read_part.new.buf))
