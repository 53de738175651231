use native.Mathlib.Omega.{arith}
use mathlib.Core.Path.{◌≡◌, sym, ap, ◌∙◌}
use lib.ListN.{length}
use Rattle.lines.specs.BelowLaws.{all_fails}
use Rattle.tst.specs.Form.{station_formed, station_formed_at, stations_formed}
use Rattle.tst.specs.FormLaws.{row_length}
use Rattle.tst.proofs.form.stations_formed.Goals as goal

pub station_formed-requires : goal.station_formed-requires
station_formed-requires c = ap length c.line_of.ensures ∙ row_length _ _ c.requires c.loop-k.k (omega arith)

pub returns-then-not-station_formed : goal.returns-then-not-station_formed
unfolding stations_formed station_formed_at
returns-then-not-station_formed c =
    let told : station_formed_at c.args.tst.now c.loop-k.k ≡ c.station_formed.result = sym (c.station_formed.ensures ∙ ap station_formed c.line_of.ensures) in
    sym (all_fails _ _ c.loop-k.k (omega arith) (told ∙ c.if-not-station_formed.true))
