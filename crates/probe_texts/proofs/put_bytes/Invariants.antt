-- `probe_texts::put_bytes`: at each turn the digits written and those left are all digits (`Spelling`). Assumes nothing.
use Rattle.probe_texts.proofs.Writing.{Spelling}
use Rattle.probe_texts.proofs.put_bytes.Given as goal

abbrev pub invariant-loop-b : goal.invariant-loop-b
invariant-loop-b l = Spelling l.initial.out l.at l.bytes l.out l.end l.b-index
