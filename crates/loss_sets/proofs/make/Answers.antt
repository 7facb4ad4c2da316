-- `loss_sets::make`: refused over the part's pins, else all set (`made`). Assumes nothing.
use Rattle.loss_sets.proofs.Laws.{making_refused_lem, making_taken}
use Rattle.loss_sets.proofs.make.Goals as goal

pub returns-then-pins-healthy : goal.returns-then-pins-healthy
returns-then-pins-healthy c =
    making_refused_lem c.args.part _ _ c.pins_of-pins.ensures _ c.if-pins-healthy.true

pub returns : goal.returns
returns c =
    making_taken c.args.part _ _ c.pins_of-pins.ensures _ c.if-pins-healthy.false
