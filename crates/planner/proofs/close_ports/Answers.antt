use borrow.Author.Rules.{rules}
use native.Mathlib.Omega.{arith}
use Rattle.planner.proofs.Steps.{closing_begins, closing_goes, closing_ends}
use Rattle.planner.proofs.close_ports.Goals as goal

pub loop-k-init : goal.loop-k-init
loop-k-init c = closing_begins _ _ _ _ _ _ c.of-ports.ensures.ports_is

pub loop-k-preserved : goal.loop-k-preserved
loop-k-preserved c =
    closing_goes _ _ _ _ _ c.loop-k.invariant (omega (arith, c.loop-k.invariant.all, c.loop-k-test.true)) (search rules) c.close_port-n.ensures

pub returns : goal.returns
returns c = closing_ends _ _ _ _ _ c.loop-k.invariant c.loop-k-test.false
