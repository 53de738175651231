-- What a sound name shows of its parts. Assumes nothing.
use Rattle.std.specs.Prelude.{◌≡◌, true, List, ℕ, length}
use Rattle.std.proofs.Common.{sym, ap, ◌∙◌, arith, eqb-true}
use Rattle.lines.specs.Columns.{cols}
use Rattle.lines.specs.SameLaws.{same_is}
use Rattle.moment.specs.Moment.{is_date}
use Rattle.tif.specs.Every.{every_first, every_rest}
use Rattle.tif.specs.Name.{tif_kind, version, name_kind, name_sender, name_date, name_sequence, first_joint, name_receiver, second_joint, name_version, name_stem, is_actor, is_sequence, is_file_stem, is_name}
use Rattle.tif.specs.PartLaws.{part_part}

-- what it shows that a text is the name of a TIF
pub record Named (name : List ℕ) : Type 0 where
  pub long : length name ≡ 35
  pub kind : name_kind name ≡ tif_kind
  pub stem : is_file_stem (name_stem name) ≡ true
  pub sender : is_actor (name_sender name) ≡ true
  pub date : is_date (name_date name) ≡ true
  pub sequence : is_sequence (name_sequence name) ≡ true
  pub joint : first_joint name ≡ 95
  pub receiver : is_actor (name_receiver name) ≡ true
  pub joint₂ : second_joint name ≡ 95
  pub versioned : name_version name ≡ version

-- what it shows that a text is a stem
pub record Stemmed (stem : List ℕ) : Type 0 where
  pub long : length stem ≡ 18
  pub actor : is_actor (cols 1 6 stem) ≡ true
  pub date : is_date (cols 7 14 stem) ≡ true
  pub sequence : is_sequence (cols 15 18 stem) ≡ true

pub stem_shows : (stem : List ℕ) → is_file_stem stem ≡ true → Stemmed stem
unfolding is_file_stem
stem_shows s e =
    let e₁ = every_rest _ _ e in
    let e₂ = every_rest _ _ e₁ in
    let e₃ = every_rest _ _ e₂ in
    record {
      long = eqb-true (length s) 18 (every_first _ _ e);
      actor = every_first _ _ e₁;
      date = every_first _ _ e₂;
      sequence = every_first _ _ e₃;
    }

pub name_shows : (name : List ℕ) → is_name name ≡ true → Named name
unfolding is_name
name_shows n e =
    let e₁ = every_rest _ _ e in
    let e₂ = every_rest _ _ e₁ in
    let e₃ = every_rest _ _ e₂ in
    let e₄ = every_rest _ _ e₃ in
    let e₅ = every_rest _ _ e₄ in
    let e₆ = every_rest _ _ e₅ in
    let s = stem_shows (name_stem n) (every_first _ _ e₂) in
    record {
      long = eqb-true (length n) 35 (every_first _ _ e);
      kind = same_is (name_kind n) tif_kind (every_first _ _ e₁);
      stem = every_first _ _ e₂;
      sender = ap is_actor (sym (part_part 6 0 18 3 n (omega arith))) ∙ s.actor;
      date = ap is_date (sym (part_part 8 6 18 3 n (omega arith))) ∙ s.date;
      sequence = ap is_sequence (sym (part_part 4 14 18 3 n (omega arith))) ∙ s.sequence;
      joint = eqb-true (first_joint n) 95 (every_first _ _ e₃);
      receiver = every_first _ _ e₄;
      joint₂ = eqb-true (second_joint n) 95 (every_first _ _ e₅);
      versioned = same_is (name_version n) version (every_first _ _ e₆);
    }
