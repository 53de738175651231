-- The laws of a header that states its counts or is out of form. Assumes nothing.
use Rattle.std.proofs.Math.Path.{◌≡◌, refl}
use Rattle.std.specs.Prelude.{◌||◌, Bool, ◌&&◌, List, ℕ, ◌<◌, length, drop, Some, None}
use Rattle.std.proofs.Math.Bool.{true, false, cond}
use Rattle.std.proofs.Common.{arith, length-take, length-drop, ne_eqb}
use Rattle.std.proofs.Math.Dec.{eqb}
use Rattle.lines.specs.BoolLaws.{and_false_left, and_false_right}
use Rattle.lines.specs.Columns.{col}
use Rattle.lines.specs.Same.{first_difference, same}
use Rattle.tif.specs.Columns.{header_width, header_sender, header_receiver, header_sequence}
use Rattle.tif.specs.Every.{every}
use Rattle.tif.specs.Header.{names_file, header_sound, count_of, records_of, transactions_of, header_of_file, stated_counts, counts_agree}
use Rattle.tif.specs.Name.{name_sender, name_receiver, name_identity}
use Rattle.tif.specs.declared.header.Counts.{Counts}

module _ (name header : List ℕ) where
  pub header_bad : header_sound name header ≡ false → header_of_file name header ≡ None
  unfolding header_of_file
  header_bad e = rw e

  pub header_good : (records transactions : ℕ) → records ≡ records_of header → transactions ≡ transactions_of header → header_sound name header ≡ true
      → Some (record { records = count_of records; transactions = count_of transactions }) ≡ header_of_file name header
  unfolding header_of_file
  header_good records transactions f g e = rw (e, f, g)

  pub header_not : header_of_file name header ≡ None → header_sound name header ≡ false
  unfolding header_of_file
  header_not e = go (header_sound name header) e
    where
      go : (b : Bool) → cond b (Some (stated_counts header)) None ≡ None → b ≡ false
      go true p = let z : ◌≡◌ {A = ℕ} 0 1 = cc in absurd (omega arith)
      go false p = refl

  pub header_is : (counts : Counts) → header_of_file name header ≡ Some counts → (header_sound name header ≡ true) × (counts ≡ stated_counts header)
  unfolding header_of_file
  header_is counts e = go (header_sound name header) e
    where
      go : (b : Bool) → cond b (Some (stated_counts header)) None ≡ Some counts → (b ≡ true) × (counts ≡ stated_counts header)
      go true p = (refl, cc)
      go false p = let z : ◌≡◌ {A = ℕ} 0 1 = cc in absurd (omega arith)

-- texts of two lengths are not the same
other_length : (a b : List ℕ) → (length a ≡ length b → ⊥) → same a b ≡ false
unfolding same
other_length a b h = and_false_left (eqb (length a) (length b)) (eqb (first_difference a b) (length a)) (ne_eqb (length a) (length b) h)

-- a name too short to have a receiver is that of no header
pub short_name : (name header : List ℕ) → length header ≡ header_width → length name < 28 → names_file name header ≡ false
unfolding names_file every
short_name name header w h =
    let r : same (header_receiver header) (name_receiver name) ≡ false =
    other_length (header_receiver header) (name_receiver name)
    (λ e. omega (arith, length-take 6 (drop 7 header), length-drop 7 header, length-take 6 (drop 22 name), length-drop 22 name)) in
    and_false_right (eqb (col 1 header) 48) (same (header_sender header) (name_sender name) && (same (header_receiver header) (name_receiver name) && (same (header_sequence header) (name_identity name) && true)))
    (and_false_right (same (header_sender header) (name_sender name)) (same (header_receiver header) (name_receiver name) && (same (header_sequence header) (name_identity name) && true))
    (and_false_left (same (header_receiver header) (name_receiver name)) (same (header_sequence header) (name_identity name) && true) r))

-- ---- the counts against the lines, test by test
module _ (records transactions lines : ℕ) where
  pub counts_records : eqb records lines ≡ false → counts_agree records transactions lines ≡ false
  unfolding counts_agree
  counts_records e = and_false_left (eqb records lines) (eqb transactions 0 || eqb transactions lines) e

  pub counts_none : eqb records lines ≡ true → eqb transactions 0 ≡ true → counts_agree records transactions lines ≡ true
  unfolding counts_agree
  counts_none e f = rw (e, f)

  pub counts_rest : eqb records lines ≡ true → eqb transactions 0 ≡ false → counts_agree records transactions lines ≡ eqb transactions lines
  unfolding counts_agree
  counts_rest e f = rw (e, f)
