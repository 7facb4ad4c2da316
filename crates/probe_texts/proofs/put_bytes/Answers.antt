use native.Mathlib.Omega.{arith}
use borrow.Author.Rules.{rules}
use Rattle.probe_texts.proofs.Writing.{spelling_start, spelling_on, spelling_done}
use Rattle.probe_texts.proofs.put_bytes.Goals as goal

pub loop-b-init : goal.loop-b-init
loop-b-init c = spelling_start

pub loop-b-preserved : goal.loop-b-preserved
loop-b-preserved c =
    spelling_on c.loop-b.invariant (search rules) (search rules) c.put-end.ensures

pub returns : goal.returns
returns c = let d = spelling_done c.loop-b.invariant (search rules) in (d.0, omega (arith, d.1))
