-- The index of the open debits: those that are unmarked, chained by the hash of what a credit must share with them. Assumes nothing.
use Rattle.std.specs.Prelude.{◌≡◌, List, ℕ, ◌+◌, ◌*◌, ◌≤◌, length}
use Rattle.lines.specs.Rows.{most_lines}
use Rattle.passage.specs.Passage.{line_width, credit_spans}
use Rattle.chains.specs.Hash.{hashes, hash_of}
use Rattle.chains.specs.Ahead.{Chained, Stands, link_at}
use Rattle.debits.specs.Form.{debit_line}
use Rattle.debits.specs.Taking.{unmarked, place_taken}

-- the hash of the debit at j
unfoldable pub debit_hash : List ℕ → ℕ → ℕ
debit_hash debits j = hash_of credit_spans (debit_line debits j)

-- from the head of a hash, and from an unmarked debit, the link leads to the next unmarked debit of that hash; only debits from k on are in
pub record OpenFrom (debits marks : List ℕ) (k : ℕ) (links : List ℕ) : Type 0 where
  pub long : hashes + length marks ≤ length links
  pub chained : Chained (length marks) (debit_hash debits) (unmarked marks) k (link_at links)

abbrev pub Opened : List ℕ → List ℕ → List ℕ → Type 0
Opened debits marks links = OpenFrom debits marks 0 links

-- what is lent to index debits: a line for each mark, not too many
pub record Listed (debits marks : List ℕ) : Type 0 where
  pub lined : length marks * line_width ≤ length debits
  pub few : length marks ≤ most_lines

-- the link at q is one of the credit's chain, and leads to the debit that the credit takes, or to the number of marks where there is none
pub record LeadsTo (debits marks credit links : List ℕ) (q : ℕ) : Type 0 where
  pub stands : Stands (length marks) (debit_hash debits) (unmarked marks) (hash_of credit_spans credit) q
  pub leads : link_at links q ≡ place_taken debits marks credit
