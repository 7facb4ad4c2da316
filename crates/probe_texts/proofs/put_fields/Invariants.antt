-- `probe_texts::put_fields`: at each turn the fields written and those left are all fields (`Filling`). Assumes nothing.
use Rattle.probe_texts.proofs.Writing.{Filling}
use Rattle.probe_texts.proofs.put_fields.Given as goal

abbrev pub invariant-loop-i : goal.invariant-loop-i
invariant-loop-i l = Filling l.initial.out l.at l.numbers l.out l.end l.i
