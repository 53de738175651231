-- Writing that an error stopped. Assumes nothing.
use Rattle.std.proofs.Common.{refl, List, [], ◌++◌, Option, Result, Ok, Err, OnErr, sym, ap, ◌∙◌, append_assoc, ℕ}
use Rattle.std.specs.Io.KnownBytes.{Appends}
use Rattle.std.proofs.KnownBytes.{Appends-nil, Appends-trans}
use Rattle.buffers.specs.Writes.{AppendsFront}

-- what holds anyhow holds at an error
pub on_any_err : {T E P : Type 0} (r : Result T E) → P → OnErr r P
on_any_err (Ok x) p = tt
on_any_err (Err e) p = p

-- before was written whole, and then the front of bs, with behind still to come
pub stopped_within : (a b c : Option (List ℕ)) (before bs behind : List ℕ) → Appends a b before → AppendsFront b c bs → AppendsFront a c (before ++ (bs ++ behind))
stopped_within a b c before bs behind written f =
    record {
      front = before ++ f.front;
      rest = f.rest ++ behind;
      whole = ap (λ l. before ++ (l ++ behind)) f.whole ∙ ap (λ l. before ++ l) (append_assoc f.front f.rest behind) ∙ sym (append_assoc before f.front (f.rest ++ behind));
      appended = Appends-trans a b c before f.front written f.appended;
    }

-- nothing was written yet
pub not_begun : (old : Option (List ℕ)) (bs : List ℕ) → AppendsFront old old bs
not_begun old bs = record { front = []; rest = bs; whole = refl; appended = Appends-nil old }
