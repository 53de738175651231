use Rattle.std.proofs.Common.{arith}
use Rattle.tic_text.specs.PieceLaws.{joined_length}
use Rattle.tic_text.specs.Text.{blanks, zeros, filler_pieces}
use Rattle.tic_text.specs.TextLaws.{filler_width}
use Rattle.tic_text.proofs.header_text.put_fillers.Goals as goal

pub put_texts-requires : goal.put_texts-requires
unfolding blanks zeros
put_texts-requires c = omega (arith, c.requires, joined_length filler_pieces, filler_width)

pub returns : goal.returns
unfolding blanks zeros
returns c = c.put_texts.ensures
