use Rattle.std.proofs.lemmas.Option.{none-some}
use Rattle.book_vectors.proofs.main.Goals as goal

-- no book is held at first
pub invariant_of-held : goal.invariant_of-held
invariant_of-held c = record { sound = λ n e. absurd (none-some n e) }
