-- `loss_marks::is_reset`: STOP in Armed, or the kind of a reset. Assumes nothing.
use Rattle.words_state.specs.Packed.{state_in}
use Rattle.loss_marks.proofs.Laws.{stop_resets, kind_resets}
use Rattle.loss_marks.proofs.is_reset.Goals as goal

pub returns-then-kind-eq-STOP : goal.returns-then-kind-eq-STOP
returns-then-kind-eq-STOP c = λ p arg. stop_resets (state_in p c.args.words.now) c.args.kind arg c.if-kind-eq-STOP.true

pub returns : goal.returns
returns c = λ p arg. kind_resets (state_in p c.args.words.now) c.args.kind arg c.if-kind-eq-STOP.false
