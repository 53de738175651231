use Rattle.std.proofs.Common.{rules}
use Rattle.tst.specs.Form.{is_lent, table_sound}
use Rattle.judging_vectors.proofs.run_lines.Goals as goal

pub judge_lines-requires : goal.judge_lines-requires
unfolding is_lent table_sound
judge_lines-requires g c = search rules
