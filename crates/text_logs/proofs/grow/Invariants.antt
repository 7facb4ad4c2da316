-- `text_logs::grow`: at each turn the bytes before the turn's are there. Assumes nothing.
use Rattle.std.proofs.Common.{◌≡◌, ◌++◌, take}
use Rattle.text_logs.proofs.grow.Given as goal

abbrev pub invariant-loop-byte : goal.invariant-loop-byte
invariant-loop-byte l = l.begun.items ≡ l.initial.begun.items ++ take l.byte-index l.part
