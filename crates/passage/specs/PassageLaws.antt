-- An amount with VAT has eleven digits. Assumes nothing.
use Rattle.std.specs.Prelude.{◌≡◌, true, List, ℕ, ◌≤◌, drop}
use Rattle.std.proofs.Common.{arith, length-take}
use Rattle.lines.specs.Number.{all_digits, number_of}
use Rattle.lines.specs.NumberLaws.{number_small}
use Rattle.passage.specs.Passage.{gross_amount}

pub gross_small : (line : List ℕ) → all_digits (gross_amount line) ≡ true → number_of (gross_amount line) ≤ 99999999999
gross_small line e = omega (arith, number_small (gross_amount line) 11 (omega (arith, length-take 11 (drop 136 line))) e)
