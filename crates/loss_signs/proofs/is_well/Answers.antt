-- `loss_signs::is_well`: a status bit of 1, or a level that differs from the healthy one, is not well. Assumes nothing.
use mathlib.Core.Path.{sym, ap, ◌∙◌}
use mathlib.Core.Bool.{Bool, not}
use lib.ListN.{get_or}
use Rattle.bits.specs.Bits.{bit}
use Rattle.bits.proofs.Laws.{bit-xor}
use Rattle.loss_rules.specs.Marks.{quiet_and_healthy}
use Rattle.loss_signs.proofs.is_well.Goals as goal

pub returns-then-has : goal.returns-then-has
unfolding quiet_and_healthy
returns-then-has c =
    let w = c.args.words.now in
    ap (λ (t : Bool). quiet_and_healthy t (bit (get_or w 0 0) c.args.pin) (bit c.args.healthy c.args.pin)) (sym c.if-has.true ∙ c.has.ensures)

pub returns : goal.returns
unfolding quiet_and_healthy
returns c =
    let w = c.args.words.now in
    let pin = c.args.pin in
    ap not (c.has-2.ensures ∙ bit-xor (get_or w 0 0) c.args.healthy pin)
    ∙ ap (λ (t : Bool). quiet_and_healthy t (bit (get_or w 0 0) pin) (bit c.args.healthy pin)) (sym c.if-has.false ∙ c.has.ensures)
