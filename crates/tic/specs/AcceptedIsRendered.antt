-- Accepted means rendered: a TIC that reads is the text of the values read, and these are sound. Assumes nothing.
use Rattle.std.specs.Prelude.{◌≡◌, List, ℕ, Ok}
use Rattle.tic.specs.AcceptedLaws.{rendered, sound, numbers}
use Rattle.tic_parts.specs.Reading.{read_tic}
use Rattle.tic.specs.Rewriting.{tic_of}
use Rattle.tic.specs.Sound.{Sound, numbers_of}
use Rattle.tic_text.specs.Text.{tic_text}
use Rattle.tic_text.specs.declared.values.TicValues.{TicValues}

pub accepted_is_rendered : (tic : List ℕ) (read : TicValues) → read_tic tic ≡ Ok read
    → (tic ≡ tic_text (tic_of tic)) × Sound (tic_of tic) × (read ≡ numbers_of (tic_of tic))
accepted_is_rendered tic read e = (rendered tic read e, sound tic read e, numbers tic read e)
