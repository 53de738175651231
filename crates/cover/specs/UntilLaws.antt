-- A test that fails where another does, and a text that is before each that does not stand before its end. Assumes nothing.
use Rattle.std.specs.Prelude.{◌≡◌, Bool, true, false, List, ℕ, length}
use Rattle.std.proofs.Math.Path.{refl, sym}
use Rattle.std.proofs.Common.{◌∙◌, true≢false}
use Rattle.lines.specs.Same.{same, before}
use Rattle.lines.specs.SameLaws.{same_is}
use Rattle.cover.specs.OrderLaws.{before_trans, before_total}

-- what would make a failing test hold does not hold
pub unless : (a b : Bool) → (a ≡ true → b ≡ true) → b ≡ false → a ≡ false
unless true b f e = absurd (true≢false (sym (f refl) ∙ e))
unless false b f e = refl

-- what is before a text is before each that is not before that text
pub before_until : (a b d : List ℕ) → length a ≡ length b → length b ≡ length d → before a b ≡ true → before d b ≡ false → before a d ≡ true
before_until a b d l m e f = go (same d b) refl
  where
    go : (t : Bool) → same d b ≡ t → before a d ≡ true
    go true s = rw (same_is d b s) e
    go false s = before_trans a b d l e (before_total d b (sym m) s f)
