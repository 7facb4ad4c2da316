-- `words_files::stand_for`: the entries below n are those of the words (`Laid`). Assumes nothing.
use Rattle.map.specs.Map.{part_of}
use Rattle.words.proofs.Images.{Laid}
use Rattle.words_files.proofs.stand_for.Given as goal

abbrev pub invariant-loop-n : goal.invariant-loop-n
invariant-loop-n l = Laid (part_of l.part) l.words l.file l.n
