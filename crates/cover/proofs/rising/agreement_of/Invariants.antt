use Rattle.cover.specs.Cover.{reached_at}
use Rattle.cover.proofs.rising.agreement_of.Given as goal

abbrev pub ghost-first_true : goal.ghost-first_true
ghost-first_true a = reached_at a.holds.0.now a.holds.1.now
