-- `put`: a pair that changes nothing is left out (`skip`), any other laid (`take_on`). Assumes nothing.
use native.Mathlib.Omega.{arith}
use lib.ListN.{length-set}
use Rattle.planner_pairs.proofs.Emitted.{skip, take_on}
use Rattle.planner_pairs.proofs.put.Goals as goal

pub returns-then-was-to : goal.returns-then-was-to
returns-then-was-to c = (λ out before d. skip out before _ _ _ _ _ d c.if-was-to.true, omega arith)

pub bounds-buf-n-2 : goal.bounds-buf-n-2
bounds-buf-n-2 c = simp length-set (omega arith)

pub returns : goal.returns
returns c =
    let a = c.args in
    (λ out before d. take_on out before a.buf.now a.n a.register a.was a.to d c.requires c.if-was-to.false, omega arith)
