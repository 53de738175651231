use Rattle.std.proofs.Common.{◌≡◌, ℕ, List, ◌++◌, ◌-◌, ◌≤◌, length, take, drop, ap, sym, ◌∙◌, arith, rules, length-take-le}
use Rattle.lines.specs.SpliceLaws.{splice_zero}
use Rattle.judge.specs.CallLaws.{words_tried_lem, words_judged_lem}
use Rattle.judge.proofs.words.judge_words.Goals as goal

pub slice_bounds-copy_from_slice-end-2 : goal.slice_bounds-copy_from_slice-end-2
slice_bounds-copy_from_slice-end-2 c = omega (arith, words_tried_lem _ _ _ _ _ _ c.lines_to_record-n.result c.try_call-answer.ensures c.lines_to_record-n.ensures)

-- the words that are kept stand in front of what was lent behind them
pub returns : goal.returns
returns c =
    let n = c.lines_to_record-n.result in
    let ws = c.try_call-answer.new.words in
    let words = c.args.words.now in
    let all : n ≤ length ws = words_tried_lem _ _ _ _ _ _ n c.try_call-answer.ensures c.lines_to_record-n.ensures in
    let long : length (take (n - 0) ws) ≡ n - 0 = length-take-le (n - 0) ws (omega arith) in
    let same : length ws ≤ length words = search rules in
    words_judged_lem _ _ _ _ _ _ n c.try_call-answer.ensures c.lines_to_record-n.ensures _ _ (omega arith)
    (ap (λ (l : List ℕ). l ++ drop (n - 0) words) c.copy_from_slice.ensures.after
    ∙ ap (λ (k : ℕ). take (n - 0) ws ++ drop k words) (sym long)
    ∙ sym (splice_zero words (take (n - 0) ws)))
