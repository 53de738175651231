-- The laws of a part of a part of a text. Assumes nothing.
use Rattle.std.specs.Prelude.{◌≡◌, refl, List, [], ◌∷◌, ℕ, zero, suc, ◌+◌, ◌≤◌, length, take, drop}
use Rattle.std.proofs.Common.{ap, ◌∙◌, arith, length-take, take-take, drop-drop}

-- columns are no more than they are asked for
pub take_short : (n : ℕ) (s : List ℕ) → length (take n s) ≤ n
take_short n s = omega (arith, length-take n s)

-- a part of a front is that part
pub front_part : (i m n : ℕ) (s : List ℕ) → i + m ≤ n → take m (drop i (take n s)) ≡ take m (drop i s)
front_part zero m n s h = take-take m n s (omega arith)
front_part (suc i) m zero s h = absurd (omega arith)
front_part (suc i) m (suc n) [] h = refl
front_part (suc i) m (suc n) (x ∷ s) h = front_part i m n s (omega arith)

-- a part of a part is a part
pub part_part : (m i n j : ℕ) (s : List ℕ) → i + m ≤ n → take m (drop i (take n (drop j s))) ≡ take m (drop (j + i) s)
part_part m i n j s h = front_part i m n (drop j s) h ∙ ap (take m) (drop-drop i j s)
