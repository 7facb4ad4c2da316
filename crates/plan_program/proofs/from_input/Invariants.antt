-- `plan_program::from_input`: the reading goes on from piece to piece. Assumes nothing.
use Rattle.plan_fields.specs.Asks.{Said}
use Rattle.plan_program.proofs.from_input.Given as goal

abbrev pub invariant-loop : goal.invariant-loop
invariant-loop g l = Said l.lines.reading
