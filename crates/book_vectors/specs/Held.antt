-- What the program keeps from case to case. Assumes nothing.
use Rattle.std.specs.Prelude.{◌≡◌, true, List, ℕ, ◌≤◌, take}
use Rattle.book.specs.Form.{book_sound}
use Rattle.book.specs.Layout.{width}

-- so many bytes at the front of the buffer are a sound book
abbrev pub IsBook : List ℕ → ℕ → Type 0
IsBook bytes size = (size ≤ 1048577) × (book_sound width (take size bytes) ≡ true)
