-- `watch_answers::refuse_sign`: 13 has two digits, any other number is as a trace has it. Assumes nothing.
use mathlib.Core.Path.{sym, ◌∙◌}
use Rattle.text.proofs.Laws.{wrote_as}
use Rattle.watch_answers.proofs.Lines.{thirteen, any_other}
use Rattle.watch_answers.proofs.refuse_sign.Goals as goal

pub returns-then-number : goal.returns-then-number
returns-then-number c = wrote_as (thirteen _ (c.if-number.true ∙ c.number.ensures)) c.put.ensures

pub returns : goal.returns
returns c = wrote_as (any_other _ (λ z. c.if-number.false (z ∙ sym c.number.ensures))) c.put_refused.ensures
