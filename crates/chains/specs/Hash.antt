-- The hash of a line: the texts of its spans, byte after byte, mixed into 32 bits, of which the upper 12 are taken. Assumes nothing.
use Rattle.std.specs.Prelude.{◌≡◌, List, ℕ, zero, suc, ◌+◌, ◌*◌, ◌/◌, ◌%◌, ◌<◌, length, get_or}
use Rattle.lines.specs.Spans.{span_count, span_of}
use Rattle.lines.specs.declared.columns.Columns.{Columns}

-- how many hashes there are
abbrev pub hashes : ℕ
hashes = 4096

-- one byte more
abbrev pub mixed : ℕ → ℕ → ℕ
mixed h b = (h * 2654435761 + b + 1) % 4294967296

-- the first i bytes of a text, onto h
unfoldable pub mix_bytes : ℕ → List ℕ → ℕ → ℕ
mix_bytes h text zero = h
mix_bytes h text (suc i) = mixed (mix_bytes h text i) (get_or text i 0)

abbrev pub mix_text : ℕ → List ℕ → ℕ
mix_text h text = mix_bytes h text (length text)

-- the texts of the first m spans
unfoldable pub mix_spans : List Columns → List ℕ → ℕ → ℕ
mix_spans spans line zero = 0
mix_spans spans line (suc m) = mix_text (mix_spans spans line m) (span_of spans line m)

-- mixed once more so that the last byte counts, the upper 12 of 32 bits
abbrev pub folded : ℕ → ℕ
folded h = mixed h 0 / 1048576 % 4096

unfoldable pub hash_of : List Columns → List ℕ → ℕ
hash_of spans line = folded (mix_spans spans line (span_count spans))

-- the hash of two texts
unfoldable pub hash_two : List ℕ → List ℕ → ℕ
hash_two a b = folded (mix_text (mix_text 0 a) b)

-- r is h with the text mixed onto it
pub record Mixed (h : ℕ) (text : List ℕ) (r : ℕ) : Type 0 where
  pub value : r ≡ mix_text h text
  pub small : r < 4294967296

-- r is the hash of the line
pub record Hashed (spans : List Columns) (line : List ℕ) (r : ℕ) : Type 0 where
  pub value : r ≡ hash_of spans line
  pub small : r < 4096
