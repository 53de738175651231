use Rattle.std.proofs.Common.{rules, arith, ap, ◌∙◌, ◌-◌, ◌≡◌, length, take, length-take-le}
use Rattle.std.proofs.Math.Nat.{sub-zero}
use Rattle.std.proofs.lemmas.Result.{on_ok_weaker, on_err_weaker}
use Rattle.std.specs.Io.KnownBytes.{Appends}
use Rattle.job.specs.Printed.{printed_of}
use Rattle.job.specs.PrintedLaws.{printed_length}
use Rattle.buffers.specs.Writes.{AppendsFront}
use Rattle.buffers.proofs.Stopped.{on_any_err, not_begun}
use Rattle.quindaf.proofs.Whole.{front_is, WholeRead, of_whole, of_any}
use Rattle.quindaf.proofs.answer_input.Given.{Over}
use Rattle.quindaf.proofs.answer_input.Goals.{After-write_full}
use Rattle.quindaf.proofs.answer_input.Goals as goal

-- a printed line has at most 133 bytes
pub slice_bounds-write_full-end : goal.slice_bounds-write_full-end
slice_bounds-write_full-end g c = omega (arith, c.answer_job-end.ensures.place, printed_length (take (c.in_ok-size.size - 0) c.read_full.new.buf))

-- a read that failed left the output as it was
pub returns-in_err-size-clause-cut : goal.returns-in_err-size-clause-cut
returns-in_err-size-clause-cut g c = on_any_err c.from_residual.result (of_any _ _ (λ xs. not_begun _ (printed_of xs)))

-- what is written has the line of what was read, and that is the line of all that there was
whole : (g : Over) (c : After-write_full g)
    → WholeRead (g.R.Read.remaining c.args.from.now) (g.R.Read.remaining c.read_full.new.from) (take c.in_ok-size.size c.read_full.new.buf) (take (c.answer_job-end.result - 0) c.answer_job-end.new.line) (length c.read_full.new.buf)
whole g c =
    let n = c.in_ok-size.size in
    let buf = c.read_full.new.buf in
    let long : length (take n buf) ≡ n = omega (arith, length-take-le n buf (search rules)) in
    record {
      read = c.in_ok-size.ensures.bytes;
      long = search rules;
      fits = omega (arith, c.in_ok-size.ensures.within);
      end = λ short. c.in_ok-size.ensures.end (omega arith);
      line = front_is _ _ _ _ c.answer_job-end.ensures ∙ ap (λ m. printed_of (take m buf)) (sub-zero n);
    }

pub returns-clause-line : goal.returns-clause-line
returns-clause-line g c =
    on_ok_weaker c.write_full.result (of_whole (whole g (goal.at.returns-clause-line g c).After-write_full) (Appends (g.W.Write.contents c.args.to.now) (g.W.Write.contents c.write_full.new.to))) c.write_full.ensures.ok

pub returns-clause-cut : goal.returns-clause-cut
returns-clause-cut g c =
    on_err_weaker c.write_full.result (of_whole (whole g (goal.at.returns-clause-cut g c).After-write_full) (AppendsFront (g.W.Write.contents c.args.to.now) (g.W.Write.contents c.write_full.new.to))) c.write_full.ensures.err
