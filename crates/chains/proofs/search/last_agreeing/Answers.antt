use native.Mathlib.Omega.{arith}
use mathlib.Core.Path.{ap, ◌∙◌}
use Rattle.chains.specs.Last.{place_of}
use Rattle.chains.specs.ChainLaws.{walk_from, head_start}
use Rattle.chains.specs.LastChainLaws.{last_from}
use Rattle.chains.proofs.search.last_agreeing.Goals as goal

pub walk-requires : goal.walk-requires
walk-requires c =
    walk_from _ _ _ _ _ _ c.args.rows.count c.args.rows.count _ (omega arith) c.requires.ruled c.requires.indexed.linked c.requires.asked
    (head_start _ _ _ _ _ _ _ _ _ c.requires.indexed c.hash_line-h.ensures c.from.ensures)

pub returns : goal.returns
returns c =
    c.walk.ensures
    ∙ ap place_of (last_from _ _ _ _ _ c.args.rows.count _ c.requires.asked (head_start _ _ _ _ _ _ _ _ _ c.requires.indexed c.hash_line-h.ensures c.from.ensures))
