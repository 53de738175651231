-- An answer as the program prints it, without the line feed. Assumes nothing.
use Rattle.std.specs.Prelude.{cond, List, [], ◌∷◌, ◌++◌, ℕ, zero, suc, ◌/◌, ltb, Err, Ok}
use Rattle.lines.specs.Number.{digits_of}
use Rattle.tif.specs.Side.{side_text}
use Rattle.answers.specs.Answer.{answer_code, fault_number}
use Rattle.answers.specs.Answer.{Answer}
use Rattle.answers.specs.declared.answer.CallFault.{CallFault}
use Rattle.answers.specs.declared.answer.Summary.{Summary}

-- ---- numbers
-- how many decimal digits a number has, where they are not more than `most`
unfoldable pub digit_count : ℕ → ℕ → ℕ
digit_count zero v = 0
digit_count (suc most) v = cond (ltb 9 v) (suc (digit_count most (v / 10))) 1

-- a number below 2^64 with no zeros in front
unfoldable pub decimal : ℕ → List ℕ
decimal v = digits_of (digit_count 20 v) v

-- the same behind a blank
unfoldable pub after_blank : ℕ → List ℕ
after_blank v = (32 ∷ []) ++ decimal v

-- ---- the line
-- "E" joined to its number
unfoldable pub fault_text : CallFault → List ℕ
fault_text fault = (69 ∷ []) ++ decimal (fault_number fault)

-- acceptance and side
unfoldable pub head_text : Summary → List ℕ
head_text s = digits_of 2 (answer_code s.answer) ++ (32 ∷ []) ++ side_text s.side

-- lines, accepted, refused
unfoldable pub counts_text : Summary → List ℕ
counts_text s = after_blank s.lines ++ after_blank s.accepted ++ after_blank s.refused

-- total, accepted amount, refused amount
unfoldable pub amounts_text : Summary → List ℕ
amounts_text s = after_blank s.total.0 ++ after_blank s.accepted_amount.0 ++ after_blank s.refused_amount.0

unfoldable pub summary_text : Summary → List ℕ
summary_text s = head_text s ++ counts_text s ++ amounts_text s

abbrev pub answer_text : Answer → List ℕ
answer_text (Err fault) = fault_text fault
answer_text (Ok s) = summary_text s
