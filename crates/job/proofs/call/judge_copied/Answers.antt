use mathlib.Core.Path.{◌∙◌}
use Rattle.job.specs.PrintedLaws.{answer_on_copy}
use Rattle.job.proofs.call.judge_copied.Goals as goal

pub returns : goal.returns
returns c =
    let a = c.args in
    let p = c.put_bytes in
    c.judge_lent.ensures.answer
    ∙ answer_on_copy a.inputs.name.now a.inputs.received.now a.inputs.card.now a.inputs.names.now a.inputs.book.now a.inputs.debits.now a.marks.now a.inputs.tif.now a.inputs.tst.now a.copy.now p.new.out a.out.now p.result p.ensures c.requires.1
