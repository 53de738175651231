use native.Mathlib.Omega.{arith}
use Prim.Native.Nat.{ℕ, ◌+◌}
use mathlib.Core.Path.{◌≡◌, ap, ◌∙◌}
use lib.ListN.{get_or, set}
use Rattle.chains.specs.Hash.{hash_of}
use Rattle.chains.specs.Index.{hash_at}
use Rattle.chains.specs.IndexLaws.{line_there, line_spanned}
use Rattle.chains.proofs.indexing.enter.Goals as goal
use Rattle.chains.proofs.indexing.enter.Goals.{After-hash_line-h}

pub line_of-requires : goal.line_of-requires
line_of-requires c =
    line_there _ _ _ (c.args.k + 1) c.args.k c.requires (omega arith)

pub hash_line-h-requires : goal.hash_line-h-requires
hash_line-h-requires c =
    rw c.line_of.ensures (line_spanned _ _ _ (c.args.k + 1) c.args.k c.requires (omega arith))

-- the hash is that of line k
hashed : (c : After-hash_line-h) →
    let rows = c.args.rows in
    c.hash_line-h.result ≡ hash_at rows.layout rows.file.now rows.spans.now c.args.k
unfolding hash_at
hashed c = c.hash_line-h.ensures.value ∙ ap (hash_of _) c.line_of.ensures

pub returns : goal.returns
returns c =
    let old = c.args.index.now in
    let e = hashed (goal.at.returns c).After-hash_line-h in
    record {
      link = ap (λ (h : ℕ). set old.links c.args.k (get_or old.heads h 0)) e;
      head = ap (λ (h : ℕ). set old.heads h (c.args.k + 1)) e;
    }
