use Rattle.std.proofs.Common.{◌≡◌, ℕ, ◌+◌, ◌-◌, ap, arith, take, drop}
use Rattle.tif.proofs.reader.line_at.Goals as goal

pub returns : goal.returns
returns c =
    let a = c.args in
    let w : a.at + 810 - a.at ≡ 810 = omega arith in
    ap (λ (n : ℕ). take n (drop a.at a.file.now)) w
