use borrow.Author.Rules.{rules}
use native.Mathlib.Omega.{arith}
use Rattle.planner.proofs.Steps.{opening_begins, opening_goes, opening_ends}
use Rattle.planner.proofs.open_ports.Goals as goal

pub loop-k-init : goal.loop-k-init
loop-k-init c = opening_begins _ _ _ _ _ c.of-ports.ensures.ports_is

pub loop-k-preserved : goal.loop-k-preserved
loop-k-preserved c =
    opening_goes _ _ _ _ c.loop-k.invariant (omega (arith, c.loop-k.invariant.all, c.loop-k-test.true)) (search rules) c.turn_port-n.ensures

pub returns : goal.returns
returns c = opening_ends _ _ _ _ c.loop-k.invariant c.loop-k-test.false
