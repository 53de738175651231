use Rattle.judge.specs.CallLaws.{room_to_fill, judged_from_words}
use Rattle.judge.proofs.call.judge.Goals as goal

pub fill-requires : goal.fill-requires
fill-requires c = room_to_fill _ _ _ _ _ _ c.lines_to_record-n.result c.try_call-answer.ensures c.lines_to_record-n.ensures

pub returns : goal.returns
returns c =
    judged_from_words _ _ _ _ _ _ c.lines_to_record-n.result c.try_call-answer.ensures c.lines_to_record-n.ensures c.args.records.now c.fill.new.records c.fill.ensures
