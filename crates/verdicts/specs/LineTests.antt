-- The tests of a line by itself, L1 to L5, with L9 among them: whether its station is known is told. Each is said as what a line has to show; where it does not, the verdict is given. Assumes nothing.
use Rattle.std.specs.Prelude.{Bool, true, false, not, ◌&&◌, ◌||◌, List, [], ◌∷◌, ℕ, eqb, Result, Ok, Err}
use Rattle.lines.specs.Columns.{col, cols}
use Rattle.lines.specs.FirstOf.{Row, ◌⇒◌, first_of}
use Rattle.lines.specs.Number.{all_digits}
use Rattle.lines.specs.Same.{same}
use Rattle.moment.specs.Moment.{is_moment}
use Rattle.passage.specs.Passage.{type_of_transit, exit_moment, exit_actor, station, lane, net_fee, counter, declared_plate, declared_nation, detected_plate, detected_nation, fuel, emission, tariff_class}
use Rattle.plate.specs.Plate.{plate_on_line}
use Rattle.tif.specs.Every.{every}
use Rattle.tif.specs.declared.side.Side.{Side}
use Rattle.tif.specs.declared.side.Side.TheVariants.{Credit, Debit, Neither}
use Rattle.verdicts.specs.Tables.{is_listed, types, tariff_classes, emissions, fuels}
use Rattle.verdicts.specs.declared.verdict.Verdict.{Verdict}
use Rattle.verdicts.specs.declared.verdict.Verdict.TheVariants.{WrongType, FieldOutOfForm, OtherActor, UnknownStation, UnknownVehicle, PlateOutOfForm}

-- R first in a CRE file, C or D first in a DEB file
abbrev pub is_of_side : Side → ℕ → Bool
is_of_side Credit letter = eqb letter 82
is_of_side Debit letter = eqb letter 67 || eqb letter 68
is_of_side Neither letter = false

-- L1: the type is of Table 1, and of the file's side
unfoldable pub is_lawful_type : Side → List ℕ → Bool
is_lawful_type side line = is_listed types (type_of_transit line) && is_of_side side (col 2 line)

-- L2: the exit moment is real, and station, lane, counter and fee without VAT are digits
abbrev pub field_tests : List ℕ → List Bool
field_tests line =
    is_moment (exit_moment line)
    ∷ all_digits (station line)
    ∷ all_digits (lane line)
    ∷ all_digits (counter line)
    ∷ all_digits (net_fee line)
    ∷ []

unfoldable pub fields_in_form : List ℕ → Bool
fields_in_form line = every (field_tests line)

-- L3: the exit actor is the sender
unfoldable pub is_from_sender : List ℕ → List ℕ → Bool
is_from_sender sender line = same (exit_actor line) sender

-- a fuel is a listed code followed by Y or N
unfoldable pub is_known_fuel : List ℕ → Bool
is_known_fuel f = is_listed fuels (cols 1 2 f) && (eqb (col 3 f) 89 || eqb (col 3 f) 78)

-- L4: tariff class, emission and fuel are of their tables
abbrev pub vehicle_tests : List ℕ → List Bool
vehicle_tests line =
    is_listed tariff_classes (tariff_class line)
    ∷ is_listed emissions (emission line)
    ∷ is_known_fuel (fuel line)
    ∷ []

unfoldable pub is_known_vehicle : List ℕ → Bool
is_known_vehicle line = every (vehicle_tests line)

-- L5: both plates are in form, each with its nation
abbrev pub plate_tests : List ℕ → List Bool
plate_tests line =
    plate_on_line (declared_plate line) (declared_nation line)
    ∷ plate_on_line (detected_plate line) (detected_nation line)
    ∷ []

unfoldable pub plates_in_form : List ℕ → Bool
plates_in_form line = every (plate_tests line)

-- ---- the tests in order: L9 stands right after L3
abbrev pub line_rows : Side → List ℕ → Bool → List ℕ → List (Row Verdict)
line_rows side sender known line =
    (not (is_lawful_type side line) ⇒ WrongType)
    ∷ (not (fields_in_form line) ⇒ FieldOutOfForm)
    ∷ (not (is_from_sender sender line) ⇒ OtherActor)
    ∷ (not known ⇒ UnknownStation)
    ∷ (not (is_known_vehicle line) ⇒ UnknownVehicle)
    ∷ (not (plates_in_form line) ⇒ PlateOutOfForm)
    ∷ []

-- the same tests, where the first that applies is only looked for
abbrev pub failing : List (Row Verdict) → List (Row (Result (Unit {0}) Verdict))
failing [] = []
failing ((b ⇒ v) ∷ rows) = (b ⇒ Err v) ∷ failing rows

-- the first test that a line by itself fails, as its verdict
unfoldable pub test_line : Side → List ℕ → Bool → List ℕ → Result (Unit {0}) Verdict
test_line side sender known line = first_of (failing (line_rows side sender known line)) (Ok tt)

-- whether it fails none
abbrev pub passes : Result (Unit {0}) Verdict → Bool
passes (Err v) = false
passes (Ok tt) = true
