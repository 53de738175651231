use Rattle.book.specs.Layout.{width}
use Rattle.cover.specs.Rising.{start_of, after}
use Rattle.cover.proofs.rising.period_in_time.Given as goal

abbrev pub ghost-first_true : goal.ghost-first_true
ghost-first_true a = after (start_of width a.holds.0.now a.holds.1) a.holds.2.now
