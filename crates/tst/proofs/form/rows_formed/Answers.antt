use native.Mathlib.Omega.{arith}
use mathlib.Core.Path.{ap, ◌∙◌}
use lib.ListN.{length}
use Rattle.tst.specs.FormLaws.{head_length, counted_ruled}
use Rattle.tst.proofs.form.rows_formed.Goals as goal

pub header_formed-requires : goal.header_formed-requires
header_formed-requires c = ap length c.header_of.ensures ∙ head_length _ _ c.requires

pub all_different-requires : goal.all_different-requires
all_different-requires c = counted_ruled _ _ _ c.requires (omega arith)
