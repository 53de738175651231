-- Demand 2. Each acceptance, byte of the TIC, record and mark is that of the definitions. Each refused line stands in the TIC once, in file order, and nothing
-- else does. Reading the TIC gives back exactly its refusals, and writing what was read gives the same bytes. Accepted and refused amounts add up to the
-- TIF's total, and the counts to its lines.
-- All of this is of any call that is answered, whatever was lent: s is what it told, and out' the output afterwards. Assumes nothing.
use Rattle.std.specs.Prelude.{◌≡◌, true, List, ◌++◌, ℕ, ◌+◌, ◌≤◌, ◌<◌, length, get_or, drop, eqb, Ok, Result, Err}
use Rattle.std.proofs.Math.Path.{sym, ap}
use Rattle.std.proofs.Common.{◌∙◌, subst, arith}
use Rattle.std.proofs.Math.Bool.{not}
use Rattle.tif.specs.Acceptance.{tif_footer}
use Rattle.tif.specs.Body.{line_at, body_total}
use Rattle.tif.specs.Footer.{total_of}
use Rattle.tif.specs.declared.acceptance.Whole.{Whole}
use Rattle.tic.specs.Listed.{listed_line, shown_line, shown_code}
use Rattle.tic_parts.specs.Reading.{read_tic}
use Rattle.tic.specs.ReadThenWrite.{read_then_write}
use Rattle.tic.specs.RenderedIsAccepted.{rendered_is_accepted}
use Rattle.tic.specs.Rewriting.{Rewrites}
use Rattle.tic.specs.Sound.{Sound, numbers_of}
use Rattle.tic_text.specs.Text.{tic_text}
use Rattle.tic.specs.WriteThenRead.{write_then_read, no_other}
use Rattle.tic.specs.declared.listed.ListedFault.TheVariants.{NoSuchLine}
use Rattle.tic.specs.declared.rewriting.RewriteFault.{RewriteFault}
use Rattle.verdicts.specs.declared.record.Record.{Record}
use Rattle.verdicts.specs.Record.{record_of}
use Rattle.verdicts.specs.Verdict.{verdict_number}
use Rattle.judging.specs.Judging.{verdict_at}
use Rattle.judging.specs.Sums.{is_accepted, is_counted}
use Rattle.judging.specs.SumsLaws.{counts_add, amounts_add}
use Rattle.answers.specs.Told.{total_told}
use Rattle.judge.specs.Call.{Call, file_of, judging_of, words_judged, marks_judged, summary_of, tic_of_call, lines_to_record, records_of, Judged}
use Rattle.answers.specs.Card.{code_of}
use Rattle.answers.specs.Listing.{refused_at, refused_before}
use Rattle.judge.specs.SoundLaws.{check_shows, judged}
use Rattle.answers.specs.declared.answer.Summary.{Summary}
use Rattle.promises.specs.AnsweredLaws.{shows, marks_then_lem, out_then, written_is}
use Rattle.promises.specs.LeftLaws.{line_recorded}
use Rattle.promises.specs.RefusalsLaws.{Placed, placed, numbered, in_order}
use Rattle.promises.specs.Written.{refusal_of, line_shown, code_shown, values_of_tic, tic_written}
use Rattle.promises.specs.WrittenLaws.{written_sound, refused_count, lines_count, words_count, words_long, number_is}

module _ (c : Call) (records : List Record) (marks' : List ℕ) (records' : List Record) (out' : List ℕ) (s : Summary) (j : Judged c records (Ok s) marks' records' out') where
  -- ---- all is the definitions'
  -- what is told is the summary of the lines judged; the marks are those after them; the TIC stands in front of the output, and past it nothing changed;
  -- each line judged has its record, and past the last one nothing changed
  pub record ByDefinition : Type 0 where
    pub told : s ≡ summary_of c
    pub marked : marks' ≡ marks_judged c
    pub written : out' ≡ tic_text (tic_of_call c) ++ drop s.length c.out
    pub recorded : records' ≡ records_of c records

  pub by_definition : ByDefinition
  by_definition = record { told = (shows c records marks' records' out' s j).told; marked = marks_then_lem c records marks' records' out' s j; written = out_then c records marks' records' out' s j; recorded = j.records_then }

  -- the record of line k, counted from 0, holds its number from 1, its amount with VAT, the verdict on it, and its fee without VAT
  pub each_recorded : (none : Record) (k : ℕ) → k < s.lines → get_or records' k none ≡ record_of (line_at c.tif k) (k + 1) (verdict_at (judging_of c) c.marks k)
  each_recorded none k h = ap (λ (rs : List Record). get_or rs k none) j.records_then ∙ line_recorded c records none k (omega (arith, h, ap lines_to_record j.answer))

  abbrev tic : List ℕ
  tic = tic_written s out'

  told : s ≡ summary_of c
  told = by_definition.told

  refused_is : s.refused ≡ (summary_of c).refused
  refused_is = ap (λ (x : Summary). x.refused) told

  written : tic ≡ tic_text (values_of_tic c)
  written = written_is c records marks' records' out' s j

  sound : Sound (values_of_tic c)
  sound = written_sound c (shows c records marks' records' out' s j).sound

  -- ---- each refused line stands in the TIC once, in file order, and nothing else does
  -- the TIC reads, and lists as many lines as are refused
  pub tic_reads : (read_tic tic ≡ Ok (numbers_of (values_of_tic c))) × ((numbers_of (values_of_tic c)).listed ≡ s.refused)
  tic_reads = (ap read_tic written ∙ rendered_is_accepted (values_of_tic c) sound, sym refused_is)

  -- listed line i of the TIC, counted from 1, is line k of the file, counted from 0: its columns 1 to 809 with the code of its verdict
  pub record Lists (i k : ℕ) : Type 0 where
    pub line : shown_line tic (listed_line tic i) ≡ line_shown c k
    pub code : shown_code tic (listed_line tic i) ≡ code_shown c k

  -- the listed line of a number is the refusal of that number, a line of the file that is refused
  pub each_listed_is_refused : (i : ℕ) → i < s.refused → Lists (i + 1) (refusal_of c i) × Placed (words_judged c) i (refusal_of c i)
  each_listed_is_refused i h =
      let l : i < (summary_of c).refused = omega (arith, h, refused_is) in
      let w = write_then_read (values_of_tic c) sound i l in (
        record {
          line = ap (λ (t : List ℕ). shown_line t (listed_line t (i + 1))) written ∙ w.0;
          code = ap (λ (t : List ℕ). shown_code t (listed_line t (i + 1))) written ∙ w.1;
        },
        placed (words_judged c) i (omega (arith, l, refused_count c)),
      )

  -- each refused line of the file is listed, at the number of refused lines up to it
  pub each_refused_is_listed : (k : ℕ) → k < s.lines → refused_at (words_judged c) k ≡ true → (refused_before (words_judged c) k < s.refused) × Lists (refused_before (words_judged c) k + 1) k
  each_refused_is_listed k h e =
      let n = numbered (words_judged c) k (omega (arith, h, ap (λ (x : Summary). x.lines) told, lines_count c)) e in
      let l : refused_before (words_judged c) k < s.refused = omega (arith, n.0, refused_count c, refused_is) in
      (l, subst (Lists (refused_before (words_judged c) k + 1)) n.1 (each_listed_is_refused (refused_before (words_judged c) k) l).0)

  -- in file order, and so no line twice
  pub listed_in_order : (i i' : ℕ) → i < i' → i' < s.refused → refusal_of c i < refusal_of c i'
  listed_in_order i i' l h = in_order (words_judged c) i i' l (omega (arith, h, refused_is, refused_count c))

  -- no other line is listed
  pub nothing_else : (listed_line tic 0 ≡ Err NoSuchLine) × ((i : ℕ) → s.refused < i → listed_line tic i ≡ Err NoSuchLine)
  nothing_else =
      let n = no_other (values_of_tic c) sound in
      (ap (λ (t : List ℕ). listed_line t 0) written ∙ n.0, λ i h. ap (λ (t : List ℕ). listed_line t i) written ∙ n.1 i (omega (arith, h, refused_is)))

  -- which lines these are: those whose verdict has a number, L1 to L9; the code is that of the number on the card
  pub refused_by_verdict : (k : ℕ) → k < s.lines
      → (refused_at (words_judged c) k ≡ not (eqb (verdict_number (verdict_at (judging_of c) c.marks k)) 0)) × (code_shown c k ≡ code_of c.card (verdict_number (verdict_at (judging_of c) c.marks k)))
  unfolding is_counted is_accepted
  refused_by_verdict k h =
      let e = number_is c k (omega (arith, h, ap (λ (x : Summary). x.lines) told, lines_count c, words_count c)) in
      (ap (λ (n : ℕ). not (eqb n 0)) e, ap (code_of c.card) e)

  -- ---- writing what was read gives the same bytes
  -- whatever is lent for it, if it is no shorter than the TIC
  pub written_again : (out₂ : List ℕ) (r₂ : Result ℕ RewriteFault) (out₂' : List ℕ) → Rewrites tic out₂ r₂ out₂' → length tic ≤ length out₂
      → (r₂ ≡ Ok (length tic)) × (out₂' ≡ tic ++ drop (length tic) out₂)
  written_again out₂ r₂ out₂' again room = read_then_write tic out₂ r₂ out₂' (numbers_of (values_of_tic c)) again tic_reads.0 room

  -- ---- in a file judged line by line
  -- the counts add up to its lines, and the amounts to the total that its footer states
  pub record AddsUp (w : Whole) : Type 0 where
    pub counts : s.accepted + s.refused ≡ w.lines
    pub lines : s.lines ≡ w.lines
    pub amounts : s.accepted_amount.0 + s.refused_amount.0 ≡ total_of (tif_footer c.tif w.lines)
    pub total : s.total.0 ≡ total_of (tif_footer c.tif w.lines)

  pub adds_up : (w : Whole) → file_of c ≡ Ok w → AddsUp w
  unfolding summary_of
  adds_up w e =
      let file = judged c (check_shows c (shows c records marks' records' out' s j).sound) w e in
      let l = words_long c w e in
      record {
        counts = ap (λ (x : Summary). x.accepted + x.refused) told ∙ counts_add (words_judged c) ∙ l;
        lines = ap (λ (x : Summary). x.lines) told ∙ l;
        amounts = ap (λ (x : Summary). x.accepted_amount.0 + x.refused_amount.0) told ∙ amounts_add c.tif (words_judged c) ∙ ap (body_total c.tif) l ∙ sym file.sum ∙ sym file.stated;
        total = ap (λ (x : Summary). x.total.0) told ∙ ap total_told e ∙ sym file.stated;
      }
