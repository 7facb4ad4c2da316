-- `words_files::to_file`: the entries below n are written (`Laid`). Assumes nothing.
use Rattle.map.specs.Map.{part_of}
use Rattle.words.proofs.Images.{Laid}
use Rattle.words_files.proofs.to_file.Given as goal

abbrev pub invariant-loop-n : goal.invariant-loop-n
invariant-loop-n l = Laid (part_of l.part) l.words l.file l.n
