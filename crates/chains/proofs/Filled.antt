-- What is found in a list that was filled with one value.
use Rattle.std.proofs.Common.{◌≡◌, ◌∙◌, ap, List, ◌++◌, ℕ, ◌<◌, get_or, replicate}
use Rattle.std.proofs.lemmas.List.{length-replicate, get_or-replicate, get_or_append_left}

pub filled : (n v : ℕ) (xs : List ℕ) → xs ≡ replicate n v → (h : ℕ) → h < n → get_or xs h 0 ≡ v
filled n v xs e h l = ap (λ (ys : List ℕ). get_or ys h 0) e ∙ get_or-replicate n h v 0 l

pub filled_first : (n v : ℕ) (xs rest : List ℕ) → xs ≡ replicate n v → (h : ℕ) → h < n → get_or (xs ++ rest) h 0 ≡ v
filled_first n v xs rest e h l =
    get_or_append_left xs rest 0 h (rw (e, length-replicate n v) l) ∙ filled n v xs e h l
