-- `planner::close_ports`: port by port; the invariant is `Closing`. Assumes nothing.
use Rattle.map.specs.Map.{part_of}
use Rattle.planner.proofs.Steps.{Closing}
use Rattle.planner.proofs.close_ports.Given as goal

abbrev pub invariant-loop-k : goal.invariant-loop-k
invariant-loop-k l = Closing (part_of l.part) l.m l.g l.from l.initial.buf l.buf l.ports l.n l.k
