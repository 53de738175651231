-- What the exported call tells: the answer by its number, nine values where it is answered, and all that is lent afterwards. Assumes nothing.
use Rattle.std.specs.Prelude.{◌≡◌, List, [], ◌∷◌, ℕ, Err, Ok}
use Rattle.lines.specs.Splice.{splice}
use Rattle.answers.specs.Answer.{answer_code}
use Rattle.judge.specs.Call.{Call, answer_of, marks_of, out_of, words_kept}
use Rattle.answers.specs.Answer.{Answer}
use Rattle.answers.specs.declared.answer.Summary.{Summary}
use Rattle.exports.specs.Numbers.{side_number, call_number}

-- acceptance, side, lines, accepted, refused, total, accepted amount, refused amount, length of the TIC
abbrev pub summary_told : Summary → List ℕ
summary_told s =
    answer_code s.answer
    ∷ side_number s.side
    ∷ s.lines
    ∷ s.accepted
    ∷ s.refused
    ∷ s.total.0
    ∷ s.accepted_amount.0
    ∷ s.refused_amount.0
    ∷ s.length
    ∷ []

-- the nine values afterwards: as they were where the call is refused
abbrev pub summary_after : Answer → List ℕ → List ℕ
summary_after (Err fault) summary = summary
summary_after (Ok s) summary = summary_told s

pub record AnswerTold (answer : Answer) (summary : List ℕ) (r : ℕ) (summary' : List ℕ) : Type 0 where
  pub number : r ≡ call_number answer
  pub summary_then : summary' ≡ summary_after answer summary

-- the words of the lines judged stand in front of those lent
pub record CallJudged (c : Call) (words summary : List ℕ) (r : ℕ) (marks' words' out' summary' : List ℕ) : Type 0 where
  pub answer : r ≡ call_number (answer_of c)
  pub marks_then : marks' ≡ marks_of c
  pub words_then : words' ≡ splice words 0 (words_kept c)
  pub out_then : out' ≡ out_of c
  pub summary_then : summary' ≡ summary_after (answer_of c) summary
