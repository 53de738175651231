-- The file name of a TIF, 35 bytes: TIF, sender, date, sequence, `_`, receiver, `_`, version. Assumes nothing.
use Rattle.std.specs.Prelude.{Bool, not, ◌&&◌, List, [], ◌∷◌, ℕ, length, eqb}
use Rattle.lines.specs.Class.{all_of}
use Rattle.lines.specs.Columns.{col, cols}
use Rattle.lines.specs.Number.{all_digits, number_of}
use Rattle.lines.specs.Same.{same}
use Rattle.lines.specs.declared.class.Class.TheVariants.{DigitOrCapital}
use Rattle.moment.specs.Moment.{is_date}
use Rattle.tif.specs.Every.{every}

-- `TIF`
abbrev pub tif_kind : List ℕ
tif_kind = 84 ∷ 73 ∷ 70 ∷ []

-- `130001`
abbrev pub version : List ℕ
version = 49 ∷ 51 ∷ 48 ∷ 48 ∷ 48 ∷ 49 ∷ []

-- ---- the parts of a name
abbrev pub name_kind : List ℕ → List ℕ
name_kind name = cols 1 3 name

abbrev pub name_sender : List ℕ → List ℕ
name_sender name = cols 4 9 name

abbrev pub name_date : List ℕ → List ℕ
name_date name = cols 10 17 name

abbrev pub name_sequence : List ℕ → List ℕ
name_sequence name = cols 18 21 name

abbrev pub first_joint : List ℕ → ℕ
first_joint name = col 22 name

abbrev pub name_receiver : List ℕ → List ℕ
name_receiver name = cols 23 28 name

abbrev pub second_joint : List ℕ → ℕ
second_joint name = col 29 name

abbrev pub name_version : List ℕ → List ℕ
name_version name = cols 30 35 name

-- sender, date and sequence together: what the names of a TIF and of its TIC share
abbrev pub name_stem : List ℕ → List ℕ
name_stem name = cols 4 21 name

-- the file sequence, by which header and TIC name the file
abbrev pub name_identity : List ℕ → List ℕ
name_identity name = cols 1 21 name

-- ---- their form
-- an actor is six digits or capitals
unfoldable pub is_actor : List ℕ → Bool
is_actor s = eqb (length s) 6 && all_of DigitOrCapital s

-- a sequence is digits that are not all 0: 0001 to 9999 in four columns
unfoldable pub is_sequence : List ℕ → Bool
is_sequence s = all_digits s && not (eqb (number_of s) 0)

-- a stem is an actor, a real date and a sequence
abbrev pub stem_tests : List ℕ → List Bool
stem_tests stem =
    eqb (length stem) 18
    ∷ is_actor (cols 1 6 stem)
    ∷ is_date (cols 7 14 stem)
    ∷ is_sequence (cols 15 18 stem)
    ∷ []

unfoldable pub is_file_stem : List ℕ → Bool
is_file_stem stem = every (stem_tests stem)

abbrev pub name_tests : List ℕ → List Bool
name_tests name =
    eqb (length name) 35
    ∷ same (name_kind name) tif_kind
    ∷ is_file_stem (name_stem name)
    ∷ eqb (first_joint name) 95
    ∷ is_actor (name_receiver name)
    ∷ eqb (second_joint name) 95
    ∷ same (name_version name) version
    ∷ []

-- the form that E1 asks for
unfoldable pub is_name : List ℕ → Bool
is_name name = every (name_tests name)
