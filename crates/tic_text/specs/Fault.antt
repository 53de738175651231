-- The paper's number of each answer that refuses a TIC. Assumes nothing.
use Rattle.std.specs.Prelude.{List, [], ◌∷◌, ℕ, ◌+◌}
use Rattle.tic_text.specs.declared.fault.TicFault.{TicFault}
use Rattle.tic_text.specs.declared.fault.TicFault.TheVariants.{Framing, Header, Counts, ListedLine, Footer}

-- T1 to T5
abbrev pub fault_number : TicFault → ℕ
fault_number Framing = 1
fault_number Header = 2
fault_number Counts = 3
fault_number ListedLine = 4
fault_number Footer = 5

-- "T" joined to it
abbrev pub fault_text : TicFault → List ℕ
fault_text fault = 84 ∷ (48 + fault_number fault) ∷ []
