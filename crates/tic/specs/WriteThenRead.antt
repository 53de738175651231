-- Write then read gives back exactly the listed lines, in order, with their codes; and name and moment. Assumes nothing.
use Rattle.std.specs.Prelude.{◌≡◌, List, ◌++◌, ℕ, ◌+◌, ◌<◌, Err}
use Rattle.std.proofs.Common.{sym, ◌∙◌, arith}
use Rattle.std.proofs.Math.Path.{ap}
use Rattle.lines.specs.Columns.{cols}
use Rattle.tif.specs.Name.{tif_kind}
use Rattle.tic_text.specs.Columns.{shown_part, code_part, tif_receiver, reception_moment}
use Rattle.tic.specs.Listed.{listed_line, shown_line, shown_code, shown_receiver, shown_identity, shown_moment}
use Rattle.tic.specs.ListedLaws.{header_part, line_shown_lem, code_shown_lem, none_at_zero, none_above}
use Rattle.tic.specs.ReadRows.{line_back, code_back, code_shows, receiver_back, identity_back, moment_back}
use Rattle.tic_parts.specs.Reading.{read_tic}
use Rattle.tic.specs.RenderedLaws.{reads, shown, text_line, text_header, header_values}
use Rattle.tic.specs.Sound.{Sound, numbers_of}
use Rattle.tic_text.specs.Text.{Tic, listed_at, listed_count, tic_text}
use Rattle.tic.specs.declared.listed.ListedFault.TheVariants.{NoSuchLine}

module _ (v : Tic) (s : Sound v) where
  -- listed line k + 1, counted from 1, is the line k of the values, with its code
  pub write_then_read : (k : ℕ) → k < listed_count v
      → (shown_line (tic_text v) (listed_line (tic_text v) (k + 1)) ≡ v.line k) × (shown_code (tic_text v) (listed_line (tic_text v) (k + 1)) ≡ v.code k)
  unfolding listed_at
  write_then_read k h =
      let c = code_shows (v.code k) (s.code k h) in (
        line_shown_lem (tic_text v) (numbers_of v) (reads v s) k h ∙ ap shown_part (text_line v s k h) ∙ line_back (v.line k) (v.code k) (shown v s k h) c.0 c.1,
        code_shown_lem (tic_text v) (numbers_of v) (reads v s) k h ∙ ap code_part (text_line v s k h) ∙ code_back (v.line k) (v.code k) (shown v s k h) c.0 c.1,
      )

  -- and there is no other
  pub no_other : (listed_line (tic_text v) 0 ≡ Err NoSuchLine) × ((k : ℕ) → listed_count v < k → listed_line (tic_text v) k ≡ Err NoSuchLine)
  no_other = (none_at_zero (tic_text v) (numbers_of v) (reads v s), none_above (tic_text v) (numbers_of v) (reads v s))

  -- the TIF's receiver, columns 1 to 21 of its name, and the moment of its reception
  pub name_and_moment : (shown_receiver (tic_text v) (read_tic (tic_text v)) ≡ v.receiver)
      × (shown_identity (tic_text v) (read_tic (tic_text v)) ≡ tif_kind ++ v.stem)
      × (shown_moment (tic_text v) (read_tic (tic_text v)) ≡ v.moment)
  name_and_moment =
      let t : List ℕ = tic_text v in
      let h = header_values v s in (
        rw (reads v s) (sym (header_part t 1 6 (omega arith)) ∙ ap tif_receiver (text_header v s) ∙ receiver_back v.receiver v.stem v.moment v.head h),
        rw (reads v s) (sym (header_part t 34 21 (omega arith)) ∙ ap (λ (x : List ℕ). cols 35 55 x) (text_header v s) ∙ identity_back v.receiver v.stem v.moment v.head h),
        rw (reads v s) (sym (header_part t 55 14 (omega arith)) ∙ ap reception_moment (text_header v s) ∙ moment_back v.receiver v.stem v.moment v.head h),
      )
