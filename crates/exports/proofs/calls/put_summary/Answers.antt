use Rattle.exports.proofs.calls.put_summary.Goals as goal

pub returns : goal.returns
returns c = rw (c.from.ensures, c.side_number.ensures)
