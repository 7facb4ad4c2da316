-- `loss_notes::note`: at each pin what an event sets (`noted_rise`, `noted_reset`). Assumes nothing.
use mathlib.Core.Path.{sym, ap, ◌∙◌}
use mathlib.Core.Bool.{Bool}
use Rattle.loss_rules.specs.Marks.{noted}
use Rattle.loss_sets.specs.Sets.{marks_in}
use Rattle.loss_notes.proofs.Laws.{noted_rise, noted_reset}
use Rattle.loss_notes.proofs.note.Goals as goal

pub returns-then-resets : goal.returns-then-resets
returns-then-resets c =
    let a = c.args in
    let m = marks_in a.marks.now in
    λ p f hb ha. noted_reset p m f a.before a.after hb ha ∙ ap (λ (t : Bool). noted p t a.before a.after m) (sym c.if-resets.true)

pub returns : goal.returns
returns c =
    let a = c.args in
    let m = marks_in a.marks.now in
    λ p f hb ha. noted_rise p m f a.before a.after hb ha ∙ ap (λ (t : Bool). noted p t a.before a.after m) (sym c.if-resets.false)
