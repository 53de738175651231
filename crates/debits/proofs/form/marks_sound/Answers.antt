use Rattle.std.proofs.Common.{rules}
use Rattle.std.proofs.iter.runs.Made.{chains}
use Rattle.debits.specs.FormLaws.{marks_told}
use Rattle.debits.proofs.form.marks_sound.Goals as goal

pub returns : goal.returns
returns c = marks_told c.args.marks.now c.all.result (search (rules, chains))
