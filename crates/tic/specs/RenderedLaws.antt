-- The text of sound values reads, row by row, as those values. Assumes nothing.
use Rattle.std.specs.Prelude.{◌≡◌, refl, Bool, true, false, cond, ◌&&◌, not, ℕ, ◌+◌, ◌^◌, ◌≤◌, ◌<◌, length, eqb, ltb, Ok, Result, Some}
use Rattle.std.proofs.Common.{sym, ◌∙◌, arith, lit<, eqb-true, leb-true, ltb-false}
use Rattle.std.proofs.Math.Path.{ap}
use Rattle.std.proofs.lemmas.Bool.{false≢true}
use mathlib.Core.List.{List}
use Rattle.lines.specs.Below.{sum_below}
use Rattle.lines.specs.BelowLaws.{all_each, sum_le}
use Rattle.lines.specs.BelowSame.{sum_same}
use Rattle.lines.specs.FirstOf.{past, none, first_of}
use Rattle.lines.specs.Number.{number_of}
use Rattle.lines.specs.Rows.{most_lines, framed_lines, one_feed}
use Rattle.moment.specs.MomentLaws.{moment_shows}
use Rattle.passage.specs.Passage.{gross_amount}
use Rattle.passage.specs.PassageLaws.{gross_small}
use Rattle.tif.specs.Every.{every_first, every_rest}
use Rattle.tif.specs.NameLaws.{stem_shows}
use Rattle.tif.specs.Side.{is_sided}
use Rattle.tic_text.specs.Columns.{tic_layout}
use Rattle.tic.specs.FileLaws.{joined_header, joined_line, joined_footer, joined_framed}
use Rattle.tic.specs.FreeLaws.{actor_shows}
use Rattle.tic.specs.ReadRows.{HeaderValues, LineShown, line_shows, code_shows, text_sound, head_back, text_counts, header_feed, amount_back, row_formed, row_feed, foot_formed, sums_back, foot_feed}
use Rattle.tic_parts.specs.Reading.{acceptance_fits, head_agrees, header_sound, head_of, counts_agree, row_at, listed_formed, listed_formed_at, lines_formed, footer_formed, sums_of, sums_fit, listed_amount, listed_sum, tic_header, tic_footer, values_of, read_tic}
use Rattle.tic_parts.specs.ReadingLaws.{read_from}
use Rattle.tic.specs.Sound.{amount_of, Sound, numbers_of}
use Rattle.tic_text.specs.Text.{Tic, header_text, listed_at, listed_count, footer_text, tic_text}
use Rattle.tic_text.specs.TextLaws.{Wide, header_length, listed_at_length, footer_length}
use Rattle.tic_text.specs.declared.values.TicHead.{TicHead}
use Rattle.tic_text.specs.declared.values.TicSums.{TicSums}
use Rattle.tic_text.specs.declared.fault.TicFault.{TicFault}
use Rattle.tic_text.specs.declared.values.TicValues.{TicValues}

-- an acceptance that fits is at most 05
fits_small : (h : TicHead) → acceptance_fits h ≡ true → h.acceptance ≤ 5
unfolding acceptance_fits first_of
fits_small h e =
    go (ltb 5 h.acceptance) refl
    (cond (ltb 1 h.acceptance) (eqb h.accepted.0 0 && eqb h.rejected.0 0) (cond (not (is_sided h.side)) false (cond (eqb h.acceptance 0) (eqb h.rejected.0 0) (ltb 0 h.rejected.0))))
    e
  where
    go : (a : Bool) → ltb 5 h.acceptance ≡ a → (rest : Bool) → cond a false rest ≡ true → h.acceptance ≤ 5
    go true f rest p = absurd (false≢true p)
    go false f rest p = ltb-false 5 h.acceptance f

agrees_shows : (h : TicHead) (n : ℕ) → head_agrees h n ≡ true → (h.accepted.0 + h.rejected.0 ≤ most_lines) × (h.acceptance ≤ 5)
unfolding head_agrees
agrees_shows h n e =
    let e₁ = every_rest _ _ e in
    (leb-true (h.accepted.0 + h.rejected.0) most_lines (every_first _ _ e₁), fits_small h (every_first _ _ (every_rest _ _ e₁)))

sums_shows : (h : TicHead) (s : TicSums) (listed : ℕ) → sums_fit h s listed ≡ true → s.rejected.0 ≡ listed
unfolding sums_fit
sums_shows h s listed e = eqb-true s.rejected.0 listed (every_first _ _ e)

module _ (v : Tic) (s : Sound v) where
  small : (v.head.accepted.0 + listed_count v ≤ most_lines) × (v.head.acceptance ≤ 5)
  small = agrees_shows v.head (listed_count v) s.counts

  pub shown : (k : ℕ) → k < listed_count v → LineShown (v.line k)
  shown k h = line_shows (v.line k) (s.line k h)

  -- ---- how large the sums are
  amount_small : (k : ℕ) → k < listed_count v → amount_of v k ≤ 99999999999
  unfolding amount_of
  amount_small k h = gross_small (v.line k) (shown k h).amount

  rejected_small : v.sums.rejected.0 < 10 ^ 15
  rejected_small =
      omega (
        arith,
        small.0,
        sums_shows v.head v.sums (sum_below (listed_count v) (amount_of v)) s.sums,
        sum_le (amount_of v) 99999999999 (listed_count v) (λ k h. amount_small k h),
      )

  -- ---- the rows
  pub header_values : HeaderValues v.receiver v.stem v.moment v.head
  header_values =
      record {
        actor = s.receiver;
        named = s.stem;
        real = s.moment;
        accepted = omega (arith, small.0);
        rejected = omega (arith, small.0);
        acceptance = omega (arith, small.1);
      }

  pub wide : Wide v
  wide =
      record {
        receiver_long = (actor_shows v.receiver s.receiver).0;
        stem_long = (stem_shows v.stem s.stem).long;
        moment_long = (moment_shows v.moment s.moment).0;
        line_long = λ k h. omega (arith, (shown k h).long);
        code_long = λ k h. (code_shows (v.code k) (s.code k h)).0;
      }

  head : List ℕ
  head = header_text v.receiver v.stem v.moment v.head

  head_long : length head ≡ 196
  unfolding head
  head_long = header_length v.receiver v.stem v.moment v.head wide.receiver_long wide.stem_long wide.moment_long

  line_feed : (k : ℕ) → k < listed_count v → one_feed (listed_at v k) ≡ true
  unfolding listed_at
  line_feed k h = row_feed (v.line k) (v.code k) (shown k h) (code_shows (v.code k) (s.code k h)).0 (code_shows (v.code k) (s.code k h)).1

  -- the text is framed, with as many lines as are rejected
  pub text_framed : framed_lines tic_layout (tic_text v) ≡ Some (listed_count v)
  unfolding tic_text head
  text_framed =
      joined_framed tic_layout head (listed_at v) (footer_text v.sums) (listed_count v) head_long (listed_at_length v wide) (footer_length v.sums)
      (omega (arith, small.0)) (lit< tt) (header_feed v.receiver v.stem v.moment v.head header_values) line_feed (foot_feed v.sums s.fifteen rejected_small)

  -- its header, lines and footer are those that were joined
  pub text_header : tic_header (tic_text v) ≡ header_text v.receiver v.stem v.moment v.head
  unfolding tic_text head
  text_header = joined_header tic_layout head (listed_at v) (footer_text v.sums) (listed_count v) head_long (listed_at_length v wide) (footer_length v.sums)

  pub text_line : (k : ℕ) → k < listed_count v → row_at (tic_text v) k ≡ listed_at v k
  unfolding tic_text head
  text_line = joined_line tic_layout head (listed_at v) (footer_text v.sums) (listed_count v) head_long (listed_at_length v wide) (footer_length v.sums)

  pub text_footer : tic_footer (tic_text v) (listed_count v) ≡ footer_text v.sums
  unfolding tic_text head
  text_footer = joined_footer tic_layout head (listed_at v) (footer_text v.sums) (listed_count v) head_long (listed_at_length v wide) (footer_length v.sums)

  -- ---- the tests
  text_lines : lines_formed (tic_text v) (listed_count v) ≡ true
  unfolding lines_formed listed_formed_at listed_at
  text_lines =
      all_each (listed_formed_at (tic_text v)) (listed_count v)
      (λ k h. ap listed_formed (text_line k h) ∙ row_formed (v.line k) (v.code k) (shown k h) (code_shows (v.code k) (s.code k h)).0 (code_shows (v.code k) (s.code k h)).1)

  amount_same : (k : ℕ) → k < listed_count v → listed_amount (tic_text v) k ≡ amount_of v k
  unfolding listed_amount amount_of listed_at
  amount_same k h =
      ap (λ (row : List ℕ). number_of (gross_amount row)) (text_line k h)
      ∙ ap number_of (amount_back (v.line k) (v.code k) (shown k h) (code_shows (v.code k) (s.code k h)).0 (code_shows (v.code k) (s.code k h)).1)

  sum_back : listed_sum (tic_text v) (listed_count v) ≡ sum_below (listed_count v) (amount_of v)
  unfolding listed_sum
  sum_back = sum_same (listed_amount (tic_text v)) (amount_of v) (listed_count v) amount_same

  header_back : head_of (tic_header (tic_text v)) ≡ v.head
  header_back = ap head_of text_header ∙ head_back v.receiver v.stem v.moment v.head header_values

  footer_back : sums_of (tic_footer (tic_text v) (listed_count v)) ≡ v.sums
  footer_back = ap sums_of text_footer ∙ sums_back v.sums s.fifteen rejected_small

  text_sums : sums_fit (head_of (tic_header (tic_text v))) (sums_of (tic_footer (tic_text v) (listed_count v))) (listed_sum (tic_text v) (listed_count v)) ≡ true
  text_sums =
      ap (λ (h : TicHead). sums_fit h (sums_of (tic_footer (tic_text v) (listed_count v))) (listed_sum (tic_text v) (listed_count v))) header_back
      ∙ ap (λ (x : TicSums). sums_fit v.head x (listed_sum (tic_text v) (listed_count v))) footer_back
      ∙ ap (sums_fit v.head v.sums) sum_back
      ∙ s.sums

  values_back : values_of (tic_text v) (listed_count v) ≡ numbers_of v
  values_back =
      ap (λ (h : TicHead). record { head = h; listed = listed_count v; sums = sums_of (tic_footer (tic_text v) (listed_count v)) }) header_back
      ∙ ap (λ (x : TicSums). record { head = v.head; listed = listed_count v; sums = x }) footer_back

  pub reads : read_tic (tic_text v) ≡ Ok (numbers_of v)
  reads =
      let t : List ℕ = tic_text v in
      sym (read_from t (listed_count v) text_framed
      (past (ap not (ap header_sound text_header ∙ text_sound v.receiver v.stem v.moment v.head header_values))
      (past (ap not (ap (λ (h : List ℕ). counts_agree h (listed_count v)) text_header ∙ text_counts v.receiver v.stem v.moment v.head header_values (listed_count v) s.counts))
      (past (ap not text_lines)
      (past (ap not (ap footer_formed text_footer ∙ foot_formed v.sums s.fifteen rejected_small))
      (past (ap not text_sums) none))))))
      ∙ ap {B = Result TicValues TicFault} Ok values_back
