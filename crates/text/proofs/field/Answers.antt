-- `text::field`: each way out is one of the field's laws: another length, no digits, too large, read. Assumes nothing.
use borrow.Author.Tests.{ne_eqb}
use mathlib.Core.Path.{sym, ◌∙◌}
use Rattle.text.proofs.Laws.{field_none, field_over, field_read}
use Rattle.text.specs.Text.{field_of}
use Rattle.text.proofs.field.Goals as goal

pub returns-then-s-count : goal.returns-then-s-count
unfolding field_of
returns-then-s-count c = simp (ne_eqb _ _ c.if-s-count.true)

pub returns-in_err-n : goal.returns-in_err-n
returns-in_err-n c =
    c.from_residual.ensures ∙ field_none _ _ _ c.if-s-count.false (sym c.number.ensures ∙ c.in_err-n.was)

pub returns-then-most-n : goal.returns-then-most-n
returns-then-most-n c =
    field_over _ _ _ c.if-s-count.false (sym c.number.ensures ∙ c.in_ok-n.was) c.if-most-n.true

pub returns : goal.returns
returns c =
    field_read _ _ _ c.if-s-count.false (sym c.number.ensures ∙ c.in_ok-n.was) c.if-most-n.false
