use Rattle.std.proofs.Common.{◌≡◌, ◌<◌, ℕ, Bool, true, false, List, length, arith, rules, sym}
use Rattle.std.proofs.lemmas.Iterator.{cases_from_all, YieldsList-from_slice}
use Rattle.std.specs.Bool.{MatchBool}
use Rattle.std.specs.List.{AllWithin, HoldsAt}
use Rattle.lines.specs.BelowLaws.{all_each, all_fails}
use Rattle.lines.specs.Class.{all_bytes, byte_is}
use Rattle.plate.specs.Plate.{all_plate_bytes}
use Rattle.plate.specs.Set.{is_plate_byte}
use Rattle.plate.proofs.plates.all_plate_bytes.Goals as goal

-- every byte is of the set, or some byte is not
all_or_not : (s : List ℕ) (r : Bool)
    → MatchBool r (AllWithin (λ b. is_plate_byte b ≡ true) s 0 (length s)) ((k : ℕ) × (k < length s) × HoldsAt (λ b. is_plate_byte b ≡ false) s k)
    → r ≡ all_plate_bytes s
unfolding all_plate_bytes all_bytes byte_is
all_or_not s true h = sym (all_each _ (length s) (λ i l. h i 0 (omega arith) l))
all_or_not s false h = sym (all_fails _ (length s) h.0 h.1 (h.2 0))

pub returns : goal.returns
returns c =
    all_or_not _ _
    (cases_from_all _ _ _ (λ b. is_plate_byte b ≡ true) (λ b. is_plate_byte b ≡ false) c.all.ensures.ran (YieldsList-from_slice c.args.s.now cc) (λ b q k. search rules) (λ b q k. search rules))
