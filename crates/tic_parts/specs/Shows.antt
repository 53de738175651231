-- What the tests of a header show of its columns. Assumes nothing.
use Rattle.std.specs.Prelude.{◌≡◌, refl, Bool, true, false, ◌||◌, cond, List, ℕ}
use Rattle.std.proofs.Common.{eqb-true}
use Rattle.lines.specs.Class.{all_of}
use Rattle.lines.specs.Columns.{col}
use Rattle.lines.specs.FirstOf.{first_of}
use Rattle.lines.specs.Number.{number_of}
use Rattle.lines.specs.Same.{same}
use Rattle.lines.specs.SameLaws.{same_is}
use Rattle.lines.specs.declared.class.Class.TheVariants.{Only}
use Rattle.moment.specs.Moment.{is_moment}
use Rattle.tif.specs.Every.{every_first, every_rest}
use Rattle.tif.specs.Header.{nok}
use Rattle.tif.specs.Name.{tif_kind, version, is_actor, is_file_stem}
use Rattle.tif.specs.Side.{side_text, side_in}
use Rattle.tif.specs.declared.side.Side.TheVariants.{Credit, Debit, Neither}
use Rattle.tic_text.specs.Columns.{tif_receiver, tif_sender, own_kind, own_stem, received_kind, received_stem, received_sender, reception_moment, tic_currency, accepted_field, rejected_field, side_field, accepted_again, rejected_again, tic_version, tic_number, header_filler}
use Rattle.tic_parts.specs.Reading.{names_one_tif, is_side, header_formed, header_sound, head_of, head_agrees, counts_agree}
use Rattle.tic_parts.specs.ReadingLaws.{Numbered, digits_show, sound_digits}
use Rattle.tic_text.specs.Text.{tic_kind}

-- the side's text is that of the side read
pub side_text_lem : (s : List ℕ) → is_side s ≡ true → s ≡ side_text (side_in s)
unfolding is_side side_in first_of
side_text_lem s e = go (same s (side_text Credit)) refl (same s (side_text Debit)) refl e
  where
    go : (a : Bool) → same s (side_text Credit) ≡ a → (b : Bool) → same s (side_text Debit) ≡ b → (a || (b || same s (side_text Neither))) ≡ true → s ≡ side_text (cond a Credit (cond b Debit Neither))
    go true f b g p = same_is s (side_text Credit) f
    go false f true g p = same_is s (side_text Debit) g
    go false f false g p = same_is s (side_text Neither) p

pub record HeaderShown (h : List ℕ) : Type 0 where
  pub first : col 1 h ≡ 48
  pub receiver : is_actor (tif_receiver h) ≡ true
  pub sender : tif_sender h ≡ received_sender h
  pub own : own_kind h ≡ tic_kind
  pub own_too : own_stem h ≡ received_stem h
  pub kind : received_kind h ≡ tif_kind
  pub stem : is_file_stem (received_stem h) ≡ true
  pub moment : is_moment (reception_moment h) ≡ true
  pub currency : tic_currency h ≡ nok
  pub side : side_field h ≡ side_text (side_in (side_field h))
  pub versioned : tic_version h ≡ version
  pub number : all_of (Only 32) (tic_number h) ≡ true
  pub filler : all_of (Only 48) (header_filler h) ≡ true
  pub digits : Numbered h

pub header_shows : (h : List ℕ) → header_sound h ≡ true → HeaderShown h
unfolding header_sound names_one_tif header_formed
header_shows h e =
    let a = every_first _ _ e in
    let a₁ = every_rest _ _ a in
    let a₂ = every_rest _ _ a₁ in
    let a₃ = every_rest _ _ a₂ in
    let a₄ = every_rest _ _ a₃ in
    let a₅ = every_rest _ _ a₄ in
    let a₆ = every_rest _ _ a₅ in
    let b = every_first _ _ (every_rest _ _ e) in
    let b₁ = every_rest _ _ b in
    let b₂ = every_rest _ _ b₁ in
    let b₃ = every_rest _ _ b₂ in
    let b₄ = every_rest _ _ b₃ in
    let b₅ = every_rest _ _ b₄ in
    record {
      first = eqb-true (col 1 h) 48 (every_first _ _ a);
      receiver = every_first _ _ a₁;
      sender = same_is (tif_sender h) (received_sender h) (every_first _ _ a₂);
      own = same_is (own_kind h) tic_kind (every_first _ _ a₃);
      own_too = same_is (own_stem h) (received_stem h) (every_first _ _ a₄);
      kind = same_is (received_kind h) tif_kind (every_first _ _ a₅);
      stem = every_first _ _ a₆;
      moment = every_first _ _ b;
      currency = same_is (tic_currency h) nok (every_first _ _ b₁);
      side = side_text_lem (side_field h) (every_first _ _ b₂);
      versioned = same_is (tic_version h) version (every_first _ _ b₃);
      number = every_first _ _ b₄;
      filler = every_first _ _ b₅;
      digits = digits_show h (sound_digits h e);
    }

pub record CountsShown (h : List ℕ) (n : ℕ) : Type 0 where
  pub accepted : number_of (accepted_again h) ≡ number_of (accepted_field h)
  pub rejected : number_of (rejected_again h) ≡ number_of (rejected_field h)
  pub agrees : head_agrees (head_of h) n ≡ true

pub counts_show : (h : List ℕ) (n : ℕ) → counts_agree h n ≡ true → CountsShown h n
unfolding counts_agree
counts_show h n e =
    let e₁ = every_rest _ _ e in
    let e₂ = every_rest _ _ e₁ in
    record {
      accepted = eqb-true (number_of (accepted_again h)) (number_of (accepted_field h)) (every_first _ _ e);
      rejected = eqb-true (number_of (rejected_again h)) (number_of (rejected_field h)) (every_first _ _ e₁);
      agrees = every_first _ _ e₂;
    }
