-- `loss_marks::step`: by the marks (`unfit`), the device's refusal (`refused`) or what is noted (`taken`). Assumes nothing.
use mathlib.Core.Path.{sym, ◌∙◌}
use Rattle.map.specs.Map.{part_of}
use Rattle.loss_marks.proofs.Stepping.{unfit, refused, taken}
use Rattle.loss_marks.proofs.step.Goals as goal

pub returns-then-not-fit : goal.returns-then-not-fit
returns-then-not-fit c =
    unfit c.args.part _ _ _ _ (sym c.if-not-fit.true ∙ c.fit.ensures (part_of c.args.part) c.pins_of.ensures)

pub returns-then-is_refusal : goal.returns-then-is_refusal
returns-then-is_refusal c =
    refused c.args.part _ _ _ _ (sym c.if-not-fit.false ∙ c.fit.ensures (part_of c.args.part) c.pins_of.ensures) c.step-answer.ensures
    (sym c.is_refusal.ensures ∙ c.if-is_refusal.true)

pub returns : goal.returns
returns c =
    taken c.args.part _ _ _ _ (sym c.if-not-fit.false ∙ c.fit.ensures (part_of c.args.part) c.pins_of.ensures) c.step-answer.ensures
    (sym c.is_refusal.ensures ∙ c.if-is_refusal.false)
    (c.is_reset-resets.ensures (part_of c.args.part) c.args.arg) c.note.ensures
