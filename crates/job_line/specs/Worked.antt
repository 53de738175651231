-- Numbers of one digit and of the most, and the six zeros of a file that is refused as a whole. Assumes nothing.
use Rattle.std.specs.Prelude.{◌≡◌, refl, List, [], ◌∷◌, ◌++◌, ℕ}
use Rattle.lines.specs.Number.{digits_of}
use Rattle.answers.specs.Told.{refused_file}
use Rattle.answers.specs.declared.answer.FileAnswer.{FileAnswer}
use Rattle.job_line.specs.Line.{digit_count, decimal, after_blank, counts_text, amounts_text}

-- 0, and 2^64 - 1
pub nought : decimal 0 ≡ 48 ∷ []
unfolding decimal digit_count digits_of
nought = refl

pub largest : decimal 18446744073709551615 ≡ 49 ∷ 56 ∷ 52 ∷ 52 ∷ 54 ∷ 55 ∷ 52 ∷ 52 ∷ 48 ∷ 55 ∷ 51 ∷ 55 ∷ 48 ∷ 57 ∷ 53 ∷ 53 ∷ 49 ∷ 54 ∷ 49 ∷ 53 ∷ []
unfolding decimal digit_count digits_of
largest = refl

-- a file that is refused as a whole: six zeros
pub six_zeros : (answer : FileAnswer) (tif : List ℕ) → counts_text (refused_file answer tif) ++ amounts_text (refused_file answer tif) ≡ 32 ∷ 48 ∷ 32 ∷ 48 ∷ 32 ∷ 48 ∷ 32 ∷ 48 ∷ 32 ∷ 48 ∷ 32 ∷ 48 ∷ []
unfolding counts_text amounts_text after_blank decimal digit_count digits_of
six_zeros answer tif = refl
