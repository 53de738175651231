-- Rendered means accepted: the text of sound values reads, and gives back their numbers. Assumes nothing.
use Rattle.std.specs.Prelude.{◌≡◌, Ok}
use Rattle.tic_parts.specs.Reading.{read_tic}
use Rattle.tic.specs.RenderedLaws.{reads}
use Rattle.tic.specs.Sound.{Sound, numbers_of}
use Rattle.tic_text.specs.Text.{Tic, tic_text}

pub rendered_is_accepted : (v : Tic) → Sound v → read_tic (tic_text v) ≡ Ok (numbers_of v)
rendered_is_accepted v s = reads v s
