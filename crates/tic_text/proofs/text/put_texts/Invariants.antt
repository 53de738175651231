use Rattle.std.proofs.Common.{take}
use Rattle.lines.specs.Splice.{Put}
use Rattle.tic_text.specs.Pieces.{joined, texts_of}
use Rattle.tic_text.proofs.text.put_texts.Given as goal

abbrev pub invariant-loop-text : goal.invariant-loop-text
invariant-loop-text l = Put (joined (take l.text-index (texts_of l.texts))) l.at l.initial.out l.mid l.out
