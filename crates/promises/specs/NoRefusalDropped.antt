-- No refusal is ever dropped. However many lines of a file are refused, up to all 9,999, each has its line in the TIC, or the call is E7 and nothing was written.
-- Assumes nothing.
use Rattle.std.specs.Prelude.{◌≡◌, refl, Bool, true, false, List, ℕ, ◌+◌, ◌*◌, ◌≤◌, ◌<◌, length, ltb, Err, Ok}
use Rattle.std.proofs.Common.{◌∙◌, arith, le-ltb}
use Rattle.lines.specs.BoolLaws.{or_false}
use Rattle.tif.specs.Acceptance.{Acceptance}
use Rattle.verdicts.specs.declared.record.Record.{Record}
use Rattle.judging.specs.Sums.{count_of}
use Rattle.judging.specs.SumsLaws.{count_within}
use Rattle.answers.specs.Told.{too_small}
use Rattle.judge.specs.Call.{Call, check_of, file_of, lines_of, lines_to_judge, words_judged, summary_of, answer_of, Judged}
use Rattle.answers.specs.Listing.{refused_at, refused_before}
use Rattle.judge.specs.SoundLaws.{check_shows, lines_few}
use Rattle.answers.specs.Answer.{Answer}
use Rattle.answers.specs.declared.answer.CallFault.TheVariants.{Room}
use Rattle.answers.specs.declared.answer.Summary.{Summary}
use Rattle.promises.specs.Demand1.{Untouched, refused_leaves_all}
use Rattle.promises.specs.Demand2.{Lists, each_refused_is_listed}
use Rattle.promises.specs.WrittenLaws.{lines_count, words_count}

-- what becomes of a refused line k of a file: the call is E7 and left everything as it was, or the TIC lists the line
pub data Kept (c : Call) (records : List Record) (r : Answer) (marks' : List ℕ) (records' : List Record) (out' : List ℕ) (k : ℕ) : Type 0 where
  no_room : r ≡ Err Room → Untouched c records marks' records' out' → Kept c records r marks' records' out' k
  listed : (s : Summary) (j : Judged c records (Ok s) marks' records' out') → r ≡ Ok s
      → Lists c records marks' records' out' s j (refused_before (words_judged c) k + 1) k → Kept c records r marks' records' out' k

-- of any call that E1 to E6 and E8 let pass, each line judged and refused is so kept
pub none_dropped : (c : Call) (records : List Record) (r : Answer) (marks' : List ℕ) (records' : List Record) (out' : List ℕ) → Judged c records r marks' records' out'
    → check_of c ≡ Ok tt → (k : ℕ) → k < lines_of c → refused_at (words_judged c) k ≡ true → Kept c records r marks' records' out' k
unfolding answer_of
none_dropped c records r marks' records' out' j sound k h e = go (too_small (summary_of c) c.room (length c.out)) refl
  where
    go : (small : Bool) → too_small (summary_of c) c.room (length c.out) ≡ small → Kept c records r marks' records' out' k
    go true t =
        let a : r ≡ Err Room = j.answer ∙ rw (sound, t) in
        Kept.no_room a (refused_leaves_all c records r marks' records' out' j Room a)
    go false t =
        let a : r ≡ Ok (summary_of c) = j.answer ∙ rw (sound, t) in
        let j' : Judged c records (Ok (summary_of c)) marks' records' out' = rw a at j in
        Kept.listed (summary_of c) j' a (each_refused_is_listed c records marks' records' out' (summary_of c) j' k (omega (arith, h, lines_count c, words_count c)) e).1

-- ---- and there is room for all that can be refused
length_told : (c : Call) → (summary_of c).length ≡ 324 + count_of true (words_judged c) * 812
unfolding summary_of
length_told c = omega arith

lines_at_most : (c : Call) → check_of c ≡ Ok tt → lines_of c ≤ 9999
lines_at_most c sound = go (file_of c) refl
  where
    go : (a : Acceptance) → file_of c ≡ a → lines_to_judge (file_of c) ≤ 9999
    go (Ok w) e = rw e (lines_few c (check_shows c sound) w e)
    go (Err f) e = rw e (omega arith)

-- an output of 324 + 812 · 9,999 bytes and 9,999 records are enough for every file
pub always_room : (c : Call) → check_of c ≡ Ok tt → 8119512 ≤ length c.out → 9999 ≤ c.room → answer_of c ≡ Ok (summary_of c)
unfolding answer_of
always_room c sound long many =
    let few = lines_at_most c sound in
    let a : ltb (length c.out) (summary_of c).length ≡ false = le-ltb (length c.out) (summary_of c).length (omega (arith, few, long, length_told c, count_within true (words_judged c), words_count c)) in
    let b : ltb c.room (summary_of c).lines ≡ false = le-ltb c.room (summary_of c).lines (omega (arith, few, many, lines_count c, words_count c)) in
    let t : too_small (summary_of c) c.room (length c.out) ≡ false = or_false _ _ a b in
    rw (sound, t)
