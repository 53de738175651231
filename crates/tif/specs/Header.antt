-- The header of a TIF: what it must hold, and the counts that it states. Assumes nothing.
use Rattle.std.specs.Prelude.{Bool, ◌&&◌, ◌||◌, cond, List, [], ◌∷◌, ℕ, eqb, Option, Some, None}
use Rattle.lines.specs.Class.{all_of}
use Rattle.lines.specs.Columns.{col}
use Rattle.lines.specs.Number.{all_digits, number_of}
use Rattle.lines.specs.Same.{same}
use Rattle.lines.specs.declared.class.Class.TheVariants.{Only}
use Rattle.lines.specs.declared.kinds.Count.{Count}
use Rattle.moment.specs.Moment.{is_moment}
use Rattle.tif.specs.Columns.{header_sender, header_receiver, header_sequence, header_currency, header_records, header_transactions, creation_moment, header_version, header_filler}
use Rattle.tif.specs.Every.{every}
use Rattle.tif.specs.Name.{name_sender, name_receiver, name_identity, version}
use Rattle.tif.specs.Side.{side_of, is_sided}
use Rattle.tif.specs.declared.header.Counts.{Counts}

-- `NOK`
abbrev pub nok : List ℕ
nok = 78 ∷ 79 ∷ 75 ∷ []

-- column 1 is "0"; sender, receiver and sequence are those of the name
abbrev pub names_file_tests : List ℕ → List ℕ → List Bool
names_file_tests name header =
    eqb (col 1 header) 48
    ∷ same (header_sender header) (name_sender name)
    ∷ same (header_receiver header) (name_receiver name)
    ∷ same (header_sequence header) (name_identity name)
    ∷ []

unfoldable pub names_file : List ℕ → List ℕ → Bool
names_file name header = every (names_file_tests name header)

-- currency NOK; CRE or DEB; version 130001; a real creation moment; a filler of zeros
abbrev pub header_form_tests : List ℕ → List Bool
header_form_tests header =
    same (header_currency header) nok
    ∷ is_sided (side_of header)
    ∷ same (header_version header) version
    ∷ is_moment (creation_moment header)
    ∷ all_of (Only 48) (header_filler header)
    ∷ []

unfoldable pub header_formed : List ℕ → Bool
header_formed header = every (header_form_tests header)

-- all of this, and counts that are digits
abbrev pub header_tests : List ℕ → List ℕ → List Bool
header_tests name header =
    names_file name header
    ∷ header_formed header
    ∷ all_digits (header_records header)
    ∷ all_digits (header_transactions header)
    ∷ []

unfoldable pub header_sound : List ℕ → List ℕ → Bool
header_sound name header = every (header_tests name header)

abbrev pub count_of : ℕ → Count
count_of v = record { 0 = v }

-- the counts that a header states, by value
abbrev pub records_of : List ℕ → ℕ
records_of header = number_of (header_records header)

abbrev pub transactions_of : List ℕ → ℕ
transactions_of header = number_of (header_transactions header)

abbrev pub stated_counts : List ℕ → Counts
stated_counts header = record { records = count_of (records_of header); transactions = count_of (transactions_of header) }

unfoldable pub header_of_file : List ℕ → List ℕ → Option Counts
header_of_file name header = cond (header_sound name header) (Some (stated_counts header)) None

-- as many records as lines, and no transactions or as many
unfoldable pub counts_agree : ℕ → ℕ → ℕ → Bool
counts_agree records transactions lines = eqb records lines && (eqb transactions 0 || eqb transactions lines)
