-- What the program keeps from case to case. Assumes nothing.
use Rattle.std.specs.Prelude.{◌≡◌, true, List, ℕ, ◌+◌, ◌*◌, ◌-◌, ◌≤◌, ◌<◌, length, take, drop}
use Rattle.std.proofs.Common.{ap, ◌∙◌, arith, length-take-le, take-take}
use Rattle.std.proofs.lemmas.List.{drop-take}
use Rattle.lines.specs.Rows.{line_place, line_of}
use Rattle.passage.specs.Passage.{line_width}
use Rattle.debits.specs.Form.{debit_layout, debit_line, debit_sound, debits_sound}
use Rattle.debits.specs.FormLaws.{sound_is}

-- so many debits and marks lie within the two buffers
pub record Fits (count : ℕ) (debits marks : List ℕ) : Type 0 where
  pub lines : count * line_width ≤ length debits
  pub bytes : count ≤ length marks

-- debits and marks of the right form at the front of the buffers
pub fits_sound : (debits marks : List ℕ) (size count : ℕ) → size ≤ length debits → count ≤ length marks
    → debits_sound (take (size - 0) debits) (take (count - 0) marks) ≡ true → Fits count debits marks
fits_sound debits marks size count h k e =
    let s = sound_is (take (size - 0) debits) (take (count - 0) marks) e in
    let n : length (take (count - 0) marks) ≡ count = omega (arith, length-take-le (count - 0) marks (omega arith)) in
    record {
      lines = omega (arith, s.long, length-take-le (size - 0) debits (omega arith), ap (λ (m : ℕ). m * line_width) n);
      bytes = k;
    }

-- so many debits at the front of their buffer are of the right form, and they and their marks lie within the two
pub record Holds (count : ℕ) (debits marks : List ℕ) : Type 0 where
  pub fits : Fits count debits marks
  pub each : (j : ℕ) → j < count → debit_sound (debit_line debits j) ≡ true

-- a debit at the front is one of the whole buffer
front_line : (debits : List ℕ) (size j : ℕ) → (j + 1) * line_width ≤ size → debit_line (take size debits) j ≡ debit_line debits j
unfolding line_of
front_line debits size j h =
    let at : ℕ = line_place debit_layout j in
    let e : size ≡ at + (size - at) = omega arith in
    ap (λ (n : ℕ). take line_width (drop at (take n debits))) e
    ∙ ap (λ (l : List ℕ). take line_width l) (drop-take at (size - at) debits)
    ∙ take-take line_width (size - at) (drop at debits) (omega arith)

pub holds_sound : (debits marks : List ℕ) (size count : ℕ) → size ≤ length debits → count ≤ length marks
    → debits_sound (take (size - 0) debits) (take (count - 0) marks) ≡ true → Holds count debits marks
holds_sound debits marks size count h k e =
    let s = sound_is (take (size - 0) debits) (take (count - 0) marks) e in
    let n : length (take (count - 0) marks) ≡ count = omega (arith, length-take-le (count - 0) marks (omega arith)) in
    let m : size - 0 ≡ count * line_width = omega (arith, s.long, length-take-le (size - 0) debits (omega arith), ap (λ (m : ℕ). m * line_width) n) in
    record {
      fits = fits_sound debits marks size count h k e;
      each = λ j l. rw (← front_line debits (size - 0) j (omega (arith, m))) (s.each j (omega (arith, n)));
    }

-- no debit is held
pub holds_none : (debits marks : List ℕ) → Holds 0 debits marks
holds_none debits marks = record { fits = record { lines = omega arith; bytes = omega arith }; each = λ j l. absurd (omega arith) }
