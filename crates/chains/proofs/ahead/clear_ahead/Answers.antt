use Rattle.std.proofs.Common.{◌≡◌, ◌∙◌, ap, ℕ, length, replicate, take, length-take-le, arith}
use Rattle.chains.proofs.Filled.{filled_first}
use Rattle.chains.proofs.ahead.clear_ahead.Goals as goal

pub returns : goal.returns
returns c =
    let long : length (take 4096 c.args.links.now) ≡ 4096 = length-take-le 4096 c.args.links.now (omega arith) in
    filled_first 4096 c.args.n c.fill.new.self _ (c.fill.ensures.after (λ y h. h) ∙ ap (λ (k : ℕ). replicate k c.args.n) long)
