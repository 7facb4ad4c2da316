-- `loss_sets::fit`: a set of other pins than the part's is over all of them. Assumes nothing.
use Rattle.loss_sets.proofs.Laws.{set_over, by_healthy}
use Rattle.loss_sets.proofs.fit.Goals as goal

pub returns-then-pins-marks : goal.returns-then-pins-marks
returns-then-pins-marks c =
    λ p are. set_over p c.args.pins are _ c.if-pins-marks.true

pub returns : goal.returns
returns c =
    λ p are. by_healthy p c.args.pins are _ c.if-pins-marks.false
