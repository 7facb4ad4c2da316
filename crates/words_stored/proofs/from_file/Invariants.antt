-- `words_stored::from_file`: the entries below n are taken (`Taken`). Assumes nothing.
use Rattle.map.specs.Map.{part_of}
use Rattle.words.proofs.Images.{Taken}
use Rattle.words_stored.proofs.from_file.Given as goal

abbrev pub invariant-loop-n : goal.invariant-loop-n
invariant-loop-n l = Taken (part_of l.part) l.file l.words l.n
