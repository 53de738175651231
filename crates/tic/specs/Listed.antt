-- Listed line k of a TIC, counted from 1, with its code, as parts of the TIC; T6 if k is 0 or above the number. Assumes nothing.
use Rattle.std.specs.Prelude.{List, [], ◌∷◌, ℕ, ◌+◌, ◌-◌, take, drop, eqb, ltb, Result, Ok, Err}
use Rattle.lines.specs.FirstOf.{Row, ◌⇒◌, first_of}
use Rattle.lines.specs.Rows.{line_place}
use Rattle.tic_text.specs.Columns.{tic_layout}
use Rattle.tic_text.specs.Fault.{fault_number}
use Rattle.tic_parts.specs.Reading.{read_tic}
use Rattle.tic.specs.declared.listed.ListedPlace.{ListedPlace}
use Rattle.tic.specs.declared.listed.ListedFault.{ListedFault}
use Rattle.tic.specs.declared.listed.ListedFault.TheVariants.{NoSuchLine, Unreadable}
use Rattle.tic_text.specs.declared.fault.TicFault.{TicFault}
use Rattle.tic_text.specs.declared.values.TicValues.{TicValues}

abbrev pub listed_rows : ℕ → ℕ → List (Row (Result ListedPlace ListedFault))
listed_rows listed k = (eqb k 0 ⇒ Err NoSuchLine) ∷ (ltb listed k ⇒ Err NoSuchLine) ∷ []

-- the line's place, and its code's 809 bytes further
abbrev pub place_of : ℕ → ListedPlace
place_of line = record { line = line; code = line + 809 }

unfoldable pub listed_place : ℕ → ℕ → Result ListedPlace ListedFault
listed_place listed k = first_of (listed_rows listed k) (Ok (place_of (line_place tic_layout (k - 1))))

-- a TIC that does not read answers why
abbrev pub place_in : Result TicValues TicFault → ℕ → Result ListedPlace ListedFault
place_in (Err fault) k = Err (Unreadable fault)
place_in (Ok v) k = listed_place v.listed k

unfoldable pub listed_line : List ℕ → ℕ → Result ListedPlace ListedFault
listed_line tic k = place_in (read_tic tic) k

-- the paper's number of each answer: T1 to T6, and 0 for a line that is there
abbrev pub listed_number : Result ListedPlace ListedFault → ℕ
listed_number (Ok place) = 0
listed_number (Err NoSuchLine) = 6
listed_number (Err (Unreadable fault)) = fault_number fault

-- ---- the parts that are shown, empty where there is no place
abbrev pub shown_line : List ℕ → Result ListedPlace ListedFault → List ℕ
shown_line tic (Ok place) = take 809 (drop place.line tic)
shown_line tic (Err fault) = []

abbrev pub shown_code : List ℕ → Result ListedPlace ListedFault → List ℕ
shown_code tic (Ok place) = take 2 (drop place.code tic)
shown_code tic (Err fault) = []

-- ---- name and moment of a TIC that was read
abbrev pub shown_part : List ℕ → Result TicValues TicFault → ℕ → ℕ → List ℕ
shown_part tic (Err fault) from width = []
shown_part tic (Ok v) from width = take width (drop from tic)

-- columns 2 to 7, 35 to 55 and 56 to 69
abbrev pub shown_receiver : List ℕ → Result TicValues TicFault → List ℕ
shown_receiver tic reading = shown_part tic reading 1 6

abbrev pub shown_identity : List ℕ → Result TicValues TicFault → List ℕ
shown_identity tic reading = shown_part tic reading 34 21

abbrev pub shown_moment : List ℕ → Result TicValues TicFault → List ℕ
shown_moment tic reading = shown_part tic reading 55 14
