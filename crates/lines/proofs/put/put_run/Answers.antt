use Rattle.std.specs.Prelude.{◌≡◌, ◌+◌, ◌-◌, ℕ, replicate, length, take, drop}
use Rattle.std.proofs.Common.{ap, ◌∙◌, arith, length-drop, length-take-le}
use Rattle.std.proofs.lemmas.List.{length-replicate}
use Rattle.lines.specs.SpliceLaws.{put_over}
use Rattle.lines.proofs.put.put_run.Goals as goal

pub returns : goal.returns
returns c =
    let rest = drop c.args.at c.args.out.now in
    let n : ℕ = c.args.at + c.args.times - c.args.at in
    let part : length (take n rest) ≡ c.args.times = length-take-le n rest (omega (arith, length-drop c.args.at c.args.out.now)) ∙ omega arith in
    let run = replicate c.args.times c.args.b in
    let long : length run ≡ c.args.times = length-replicate c.args.times c.args.b in
    let filled : c.fill.new.self ≡ run = c.fill.ensures.after (λ y e. e) ∙ ap (λ (k : ℕ). replicate k c.args.b) part in
    put_over run _ _ _ _ _ filled (omega arith) (omega arith)
