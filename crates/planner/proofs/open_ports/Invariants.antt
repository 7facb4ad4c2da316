-- `planner::open_ports`: port by port; the invariant is `Opening`. Assumes nothing.
use Rattle.map.specs.Map.{part_of}
use Rattle.planner.proofs.Steps.{Opening}
use Rattle.planner.proofs.open_ports.Given as goal

abbrev pub invariant-loop-k : goal.invariant-loop-k
invariant-loop-k l = Opening (part_of l.part) l.s l.m l.initial.buf l.buf l.ports l.n l.k
