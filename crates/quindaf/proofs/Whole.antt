-- From what was read and written to the input and its line. Assumes nothing.
use Rattle.std.proofs.Common.{◌≡◌, sym, ap, ◌∙◌, ℕ, ◌-◌, ◌<◌, ◌≤◌, List, ◌++◌, Option, Some, None, IfSome, inl, inr, ◌⊎◌, arith, length, length-append, take, drop, take_at, append-nil, subst}
use Rattle.std.proofs.Math.Nat.{sub-zero, eq-or-lt_of_le}
use Rattle.std.specs.Io.KnownBytes.{Consumes, IsAtEnd}
use Rattle.lines.specs.Splice.{Put}
use Rattle.lines.specs.SpliceLaws.{splice_zero}
use Rattle.job_form.specs.FormLaws.{too_long}
use Rattle.job.specs.Printed.{text_of, printed_of}

-- the front of the buffer is the text
pub front_is : (text out out' : List ℕ) (r : ℕ) → Put text 0 out r out' → take (r - 0) out' ≡ text
front_is text out out' r p =
    let long : length text ≡ r = omega (arith, p.place) in
    rw (sub-zero r, p.spliced, splice_zero out text) (take_at text (drop (length text) out) r long)

-- bytes that are too many for a job have the line of any others that are
long_alike : (xs ys : List ℕ) → 65536 < length xs → 65536 < length ys → printed_of xs ≡ printed_of ys
unfolding printed_of text_of
long_alike xs ys more most = rw (too_long xs more, too_long ys most)

-- what was read has the line of all that there was: where something is left, both are too long
alike : (bs rest : List ℕ) (room : ℕ) → 65536 < room → (length bs ≡ room) ⊎ (length bs < room) → (length bs < room → IsAtEnd (Some rest)) → printed_of bs ≡ printed_of (bs ++ rest)
alike bs rest room long (inl full) end = long_alike bs (bs ++ rest) (omega arith) (omega (arith, length-append bs rest))
alike bs rest room long (inr short) end = ap printed_of (sym (ap (λ l. bs ++ l) (end short) ∙ append-nil bs))

all_alike : (old new : Option (List ℕ)) (bs : List ℕ) (room : ℕ) (P : List ℕ → Type 0) → Consumes old new bs → 65536 < room → length bs ≤ room → (length bs < room → IsAtEnd new)
    → P (printed_of bs) → IfSome old (λ input. P (printed_of input))
all_alike None new bs room P read long fits end p = tt
all_alike (Some xs) None bs room P read long fits end p = absurd read
all_alike (Some xs) (Some rest) bs room P read long fits end p =
    subst P (alike bs rest room long (eq-or-lt_of_le fits) end ∙ ap printed_of (sym read)) p

-- bs was read into a buffer with room for more than a job, until that was full or the input at its end, and text is its line
pub record WholeRead (old new : Option (List ℕ)) (bs text : List ℕ) (room : ℕ) : Type 0 where
  pub read : Consumes old new bs
  pub long : 65536 < room
  pub fits : length bs ≤ room
  pub end : length bs < room → IsAtEnd new
  pub line : text ≡ printed_of bs

-- what holds of that line holds of the line of all the input
pub of_whole : {old new : Option (List ℕ)} {bs text : List ℕ} {room : ℕ} → WholeRead old new bs text room → (P : List ℕ → Type 0) → P text → IfSome old (λ input. P (printed_of input))
of_whole {old} {new} {bs} {text} {room} w P p = all_alike old new bs room P w.read w.long w.fits w.end (subst P w.line p)

-- what holds of any input holds of what there is
pub of_any : (old : Option (List ℕ)) (P : List ℕ → Type 0) → ((xs : List ℕ) → P xs) → IfSome old P
of_any None P h = tt
of_any (Some xs) P h = h xs
