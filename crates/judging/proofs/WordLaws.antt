-- What each verdict carries fits its word, so that the word gives the verdict back; and L9 is in use only where a station table is lent. Assumes nothing.
-- These laws stand here and not in specs/, since they rest on `fails_verdict` and `passes_verdict`, which wrong tests of a line make false: a must-fail edit counts only where nothing in specs/ rests on what it makes false.
use Rattle.std.specs.Prelude.{◌≡◌, refl, Bool, true, false, ◌&&◌, cond, List, ℕ, ◌+◌, ◌≤◌, ◌<◌, length, ltb, Result, Ok, Err, Option, Some, None}
use Rattle.std.proofs.Common.{sym, ap, ◌∙◌, arith, ltb-true}
use Rattle.lines.specs.Rows.{most_lines}
use Rattle.tif.specs.Body.{line_at}
use Rattle.tif.specs.declared.side.Side.{Side}
use Rattle.tif.specs.declared.side.Side.TheVariants.{Credit, Debit, Neither}
use Rattle.tst.specs.Form.{is_lent}
use Rattle.tst.specs.Stations.{unlent_known}
use Rattle.cover.specs.Cover.{Asked, covering_period, has_cover, cover_in, cover_of, place_at}
use Rattle.book.specs.Form.{book_sound}
use Rattle.book.specs.FormLaws.{whole_is}
use Rattle.book.specs.Layout.{width, agreements, periods_at, body_place}
use Rattle.cover.specs.declared.cover.Place.{Place}
use Rattle.debits.specs.CreditsLaws.{after_length}
use Rattle.debits.specs.TakingLaws.{taken_number}
use Rattle.debits.specs.Taking.{taken}
use Rattle.verdicts.specs.LineTests.{test_line}
use Rattle.verdicts.specs.LineTestsLaws.{line_refuses, known_number}
use Rattle.verdicts.specs.Verdict.{verdict_number, verdict_of, Placed, InWord}
use Rattle.verdicts.specs.VerdictLaws.{refusal_fits, word_back}
use Rattle.verdicts.specs.declared.verdict.Verdict.{Verdict}
use Rattle.verdicts.specs.declared.verdict.Verdict.TheVariants.{Covered, Credits, WrongType, RepeatedLine, NotCovered, NoDebit}
use Rattle.judging.specs.Judging.{Judging, repeated_at, cover_on, covered_by, credit_of, passed_verdict, taken_on, known_on, test_on, verdict_on, reaches_at, marks_before, verdict_at, word_at}
use Rattle.judging.specs.StepLaws.{passed_credit, passed_debit, passed_neither, fails_verdict, passes_verdict}

-- a place of a sound book has one of 1,000 agreements and one of 64 periods
in_place : (w : ℕ) (book : List ℕ) (q : Asked) (i : ℕ) (place : Place) → book_sound w book ≡ true → cover_in w book q i ≡ Some place → Placed place
unfolding cover_in has_cover
in_place w book q i place s e = go (ltb i (agreements book)) refl (ltb (covering_period w book (body_place w book i) q) (periods_at book (body_place w book i))) refl e
  where
    go : (a : Bool) → ltb i (agreements book) ≡ a → (b : Bool) → ltb (covering_period w book (body_place w book i) q) (periods_at book (body_place w book i)) ≡ b
        → cond (a && b) (Some (place_at i (covering_period w book (body_place w book i) q))) None ≡ Some place → Placed place
    go true f true g p =
        let whole = whole_is w book s in
        let h : i < agreements book = ltb-true i (agreements book) f in
        let body = whole.bodies i h in
        let l = ltb-true (covering_period w book (body_place w book i) q) (periods_at book (body_place w book i)) g in
        let here : record { agreement = i + 1; period = covering_period w book (body_place w book i) q + 1 } ≡ place = cc in
        let a : i + 1 ≡ place.agreement = ap (λ (x : Place). x.agreement) here in
        let b : covering_period w book (body_place w book i) q + 1 ≡ place.period = ap (λ (x : Place). x.period) here in
        record { agreed = omega (arith, whole.headed.few); counted = omega arith; dated = omega (arith, body.most) }
    go true f false g p = let z : ◌≡◌ {A = ℕ} 0 1 = cc in absurd (omega arith)
    go false f b g p = let z : ◌≡◌ {A = ℕ} 0 1 = cc in absurd (omega arith)

place_fits : (book line : List ℕ) (place : Place) → book_sound width book ≡ true → cover_on book line ≡ Some place → InWord (Covered place)
unfolding cover_on cover_of
place_fits book line place s e =
    let p = in_place width book _ _ place s e in
    record {
      placed = λ other f. let g : place ≡ other = cc in rw g at p;
      credited = λ debit f. let z : ◌≡◌ {A = ℕ} 0 1 = cc in absurd (omega arith);
    }

debit_fits : (debit : ℕ) → debit < 65536 → InWord (Credits debit)
debit_fits debit h =
    record {
      placed = λ place f. let z : ◌≡◌ {A = ℕ} 0 1 = cc in absurd (omega arith);
      credited = λ other f. let g : debit ≡ other = cc in omega arith;
    }

covered_fits : (book line : List ℕ) → book_sound width book ≡ true → (cover : Option Place) → cover_on book line ≡ cover → InWord (covered_by cover)
covered_fits book line s (Some place) e = place_fits book line place s e
covered_fits book line s None e = refusal_fits NotCovered (omega arith)

credit_fits : (debits marks credit : List ℕ) → length marks ≤ most_lines → (took : Option ℕ) → taken debits marks credit ≡ took → InWord (credit_of took)
credit_fits debits marks credit few (Some debit) e = debit_fits debit (omega (arith, (taken_number debits marks credit debit e).1))
credit_fits debits marks credit few None e = refusal_fits NoDebit (omega arith)

-- with a sound book and no more marks than there may be debits
module _ (j : Judging) (marks : List ℕ) (k : ℕ) (s : book_sound width j.book ≡ true) (few : length marks ≤ most_lines) where
  passed_fits : (side : Side) (repeated : Bool) → InWord (passed_verdict side repeated (cover_on j.book (line_at j.tif k)) (taken_on j marks k))
  passed_fits Credit repeated =
      rw (passed_credit repeated (cover_on j.book (line_at j.tif k)) (taken_on j marks k))
      (credit_fits j.debits marks (line_at j.tif k) few (taken_on j marks k) refl)
  passed_fits Debit true = rw (passed_debit true (cover_on j.book (line_at j.tif k)) (taken_on j marks k)) (refusal_fits RepeatedLine (omega arith))
  passed_fits Debit false =
      rw (passed_debit false (cover_on j.book (line_at j.tif k)) (taken_on j marks k))
      (covered_fits j.book (line_at j.tif k) s (cover_on j.book (line_at j.tif k)) refl)
  passed_fits Neither repeated = rw (passed_neither repeated (cover_on j.book (line_at j.tif k)) (taken_on j marks k)) (refusal_fits WrongType (omega arith))

  -- every verdict on a line fits a word
  pub verdict_fits : InWord (verdict_on j marks k)
  verdict_fits = go (test_on j k) refl
    where
      go : (t : Result (Unit {0}) Verdict) → test_on j k ≡ t → InWord (verdict_on j marks k)
      go (Err v) e = rw (sym (fails_verdict j marks k v e)) (refusal_fits v (line_refuses j.side j.sender (known_on j k) (line_at j.tif k) v e))
      go (Ok tt) e = rw (passes_verdict j marks k e) (passed_fits j.side (repeated_at j.tif k))

-- the word of a line gives its verdict back
pub word_verdict : (j : Judging) (marks : List ℕ) (k : ℕ) → book_sound width j.book ≡ true → length marks ≤ most_lines → verdict_of (word_at j marks k) ≡ verdict_at j marks k
unfolding word_at verdict_at
word_verdict j marks k s few =
    let l : length (marks_before j marks k) ≤ most_lines = rw (after_length j.debits (line_at j.tif) (reaches_at j) marks k) few in
    word_back (verdict_on j (marks_before j marks k) k) (verdict_fits j (marks_before j marks k) k s l)

-- ---- the numbers in use
-- past L1 to L5 and L9 a verdict is one of L6 to L8 or an acceptance
passed_number : (side : Side) (repeated : Bool) (cover : Option Place) (took : Option ℕ) → verdict_number (passed_verdict side repeated cover took) < 9
passed_number Credit repeated cover took = rw (passed_credit repeated cover took) (go took)
  where
    go : (t : Option ℕ) → verdict_number (credit_of t) < 9
    go (Some debit) = omega arith
    go None = omega arith
passed_number Debit true cover took = rw (passed_debit true cover took) (omega arith)
passed_number Debit false cover took = rw (passed_debit false cover took) (go cover)
  where
    go : (c : Option Place) → verdict_number (covered_by c) < 9
    go (Some place) = omega arith
    go None = omega arith
passed_number Neither repeated cover took = rw (passed_neither repeated cover took) (omega arith)

-- with no station table lent no line is refused by L9
pub unlent_number : (j : Judging) (marks : List ℕ) (k : ℕ) → is_lent j.tst ≡ false → verdict_number (verdict_on j marks k) < 9
unlent_number j marks k e = go (test_on j k) refl
  where
    known : test_on j k ≡ test_line j.side j.sender true (line_at j.tif k)
    known = ap (λ (b : Bool). test_line j.side j.sender b (line_at j.tif k)) (unlent_known j.tst (line_at j.tif k) e)

    go : (t : Result (Unit {0}) Verdict) → test_on j k ≡ t → verdict_number (verdict_on j marks k) < 9
    go (Err v) f = rw (sym (fails_verdict j marks k v f)) (omega (arith, known_number j.side j.sender (line_at j.tif k) v (sym known ∙ f)))
    go (Ok tt) f = rw (passes_verdict j marks k f) (passed_number j.side (repeated_at j.tif k) (cover_on j.book (line_at j.tif k)) (taken_on j marks k))
