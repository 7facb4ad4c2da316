-- `plan_fields::Reading::grow`: byte by byte, what is read so far is what the bytes so far say. Assumes nothing.
use mathlib.Core.Path.{◌≡◌}
use lib.ListN.{drop}
use Rattle.plan_fields.specs.Asks.{taken_all}
use Rattle.plan_fields.proofs.Reading.grow.Given as goal

abbrev pub invariant-loop-b : goal.invariant-loop-b
invariant-loop-b l = taken_all l.self (drop l.b-index l.part) ≡ taken_all l.initial.self l.part
