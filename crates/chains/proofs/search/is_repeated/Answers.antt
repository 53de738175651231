use native.Mathlib.Omega.{arith}
use mathlib.Core.Path.{ap, ◌∙◌}
use Rattle.std.specs.Prelude.{is_some}
use Rattle.chains.specs.LastLaws.{last_there}
use Rattle.chains.specs.IndexLaws.{line_there}
use Rattle.chains.specs.ChainLaws.{walk_from, found_from, own_asked, link_start, own_repeated}
use Rattle.chains.proofs.search.is_repeated.Goals as goal

pub line_of-requires : goal.line_of-requires
line_of-requires c =
    line_there _ _ _ c.args.rows.count c.args.k c.requires.ruled c.requires.k_lt_n

pub walk-requires : goal.walk-requires
walk-requires c =
    rw c.line_of.ensures
    (walk_from _ _ _ _ _ _ c.args.rows.count c.args.k _ (omega arith) c.requires.ruled c.requires.linked
    (own_asked _ _ _ _ _ c.requires.k_lt_n c.requires.ruled)
    (link_start _ _ _ _ _ c.requires.k_lt_n _ _ c.requires.linked c.from.ensures))

pub returns : goal.returns
returns c =
    c.is_some.ensures
    ∙ ap is_some (rw c.line_of.ensures at c.walk.ensures)
    ∙ last_there _ _
    ∙ found_from _ _ _ _ _ c.args.k _ (own_asked _ _ _ _ _ c.requires.k_lt_n c.requires.ruled) (link_start _ _ _ _ _ c.requires.k_lt_n _ _ c.requires.linked c.from.ensures)
    ∙ own_repeated _ _ _ _
