use Rattle.std.proofs.Common.{◌≡◌, Bool, true, false, cond, refl, sym, ◌∙◌}
use mir.Val.{bool_byte}
use Rattle.moment.specs.Calendar.{is_leap, days_in}
use Rattle.moment.proofs.days_in.Goals as goal

-- the number of a truth
number : (b : Bool) → bool_byte b ≡ cond b 1 0
number true = refl
number false = refl

pub returns : goal.returns
unfolding days_in
returns c = let e : c.from.result ≡ is_leap c.args.year = c.from.ensures ∙ number c.is_leap.result ∙ sym c.is_leap.ensures in c.from-2.ensures ∙ rw e
