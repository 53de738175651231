-- The record of a line. Assumes nothing.
use Rattle.std.specs.Prelude.{List, ℕ}
use Rattle.lines.specs.Number.{value_of}
use Rattle.passage.specs.Passage.{gross_amount, net_fee}
use Rattle.verdicts.specs.declared.record.Record.{Record}
use Rattle.verdicts.specs.declared.verdict.Verdict.{Verdict}

-- the record of a line holds its number, amount with VAT and verdict, and its fee without VAT
abbrev pub record_of : List ℕ → ℕ → Verdict → Record
record_of line k v = record { number = k; gross = record { 0 = value_of (gross_amount line) }; verdict = v; net = record { 0 = value_of (net_fee line) } }
