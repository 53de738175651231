-- Agreement of two lines on a list of spans, in columns as the papers count them. Assumes nothing.
use Rattle.std.specs.Prelude.{◌≡◌, Bool, true, ◌&&◌, List, ℕ, ◌≤◌, ◌<◌, length, get_or, leb}
use Rattle.std.proofs.Common.{leb-true}
use Rattle.lines.specs.Below.{all_below}
use Rattle.lines.specs.BelowLaws.{all_at}
use Rattle.lines.specs.BoolLaws.{and_left, and_right}
use Rattle.lines.specs.Columns.{cols, columns}
use Rattle.lines.specs.Same.{same}
use Rattle.lines.specs.declared.columns.Columns.{Columns}

abbrev pub span_at : List Columns → ℕ → Columns
span_at spans m = get_or spans m (columns 0 0)

abbrev pub span_from : List Columns → ℕ → ℕ
span_from spans m = (span_at spans m).from

abbrev pub span_to : List Columns → ℕ → ℕ
span_to spans m = (span_at spans m).to

-- how many spans there are
abbrev pub span_count : List Columns → ℕ
span_count spans = length spans

-- the columns of span m
abbrev pub span_of : List Columns → List ℕ → ℕ → List ℕ
span_of spans line m = cols (span_from spans m) (span_to spans m) line

-- span m lies within a line of `width` bytes
unfoldable pub span_in : ℕ → List Columns → ℕ → Bool
span_in width spans m = leb 1 (span_from spans m) && leb (span_from spans m) (span_to spans m) && leb (span_to spans m) width

unfoldable pub spans_in : ℕ → List Columns → Bool
spans_in width spans = all_below (span_count spans) (span_in width spans)

-- a's span m of ss is b's span m of ts
unfoldable pub span_agrees : List Columns → List ℕ → List Columns → List ℕ → ℕ → Bool
span_agrees ss a ts b m = same (span_of ss a m) (span_of ts b m)

-- a by the spans ss and b by the spans ts, as many of them, hold the same texts
unfoldable pub agree_across : List Columns → List ℕ → List Columns → List ℕ → Bool
agree_across ss a ts b = all_below (span_count ss) (span_agrees ss a ts b)

-- two lines of one kind agree on each span
unfoldable pub agree_on : List Columns → List ℕ → List ℕ → Bool
agree_on spans a b = agree_across spans a spans b

-- spans within both lines, as many for the one as for the other
pub record Spanned (ss : List Columns) (a : List ℕ) (ts : List Columns) (b : List ℕ) : Type 0 where
  pub first : spans_in (length a) ss ≡ true
  pub second : spans_in (length b) ts ≡ true
  pub paired : span_count ss ≡ span_count ts

-- what it says that a span lies within
pub record Within (width from to : ℕ) : Type 0 where
  pub low : 1 ≤ from
  pub order : from ≤ to
  pub high : to ≤ width

pub span_within : (width : ℕ) (spans : List Columns) → spans_in width spans ≡ true → (m : ℕ) → m < span_count spans → Within width (span_from spans m) (span_to spans m)
unfolding spans_in span_in
span_within width spans e m h =
    let t = all_at (span_in width spans) (span_count spans) e m h in
    let front = and_left (leb 1 (span_from spans m) && leb (span_from spans m) (span_to spans m)) (leb (span_to spans m) width) t in
    record {
      low = leb-true 1 (span_from spans m) (and_left (leb 1 (span_from spans m)) (leb (span_from spans m) (span_to spans m)) front);
      order = leb-true (span_from spans m) (span_to spans m) (and_right (leb 1 (span_from spans m)) (leb (span_from spans m) (span_to spans m)) front);
      high = leb-true (span_to spans m) width (and_right (leb 1 (span_from spans m) && leb (span_from spans m) (span_to spans m)) (leb (span_to spans m) width) t);
    }
