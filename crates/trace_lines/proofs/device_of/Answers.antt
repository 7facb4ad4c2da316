-- `trace_lines::device_of`: each way out is a law of `device_of`: too short, no tab, its two fields, of which either may be none. Assumes nothing.
use borrow.Author.Rules.{rules}
use mathlib.Core.Path.{refl, sym, ◌∙◌}
use Rattle.std.specs.Prelude.{Some, None}
use Rattle.text.proofs.Laws.{field_small}
use Rattle.trace_lines.proofs.Laws.{device_short, device_no_tab, device_fields}
use Rattle.trace_lines.proofs.device_of.Goals as goal

pub returns-then-s-lt2 : goal.returns-then-s-lt2
returns-then-s-lt2 c = device_short _ _ c.if-s-lt2.true

pub returns-then-not-starts : goal.returns-then-not-starts
returns-then-not-starts c = device_no_tab _ _ (sym c.starts.ensures ∙ c.if-not-starts.true)

pub returns-in_err-choice : goal.returns-in_err-choice
returns-in_err-choice c =
    c.from_residual.ensures
    ∙ device_fields _ _ None _ _ _ refl refl (sym c.in_err-choice.was ∙ c.field.ensures) refl (sym c.starts.ensures ∙ c.if-not-starts.false)

pub overflow_cast-choice : goal.overflow_cast-choice
overflow_cast-choice c = let few = (field_small 1 3 _).small _ (sym c.field.ensures ∙ c.in_ok-choice.was) in search rules

pub returns-in_err-levels : goal.returns-in_err-levels
returns-in_err-levels c =
    c.from_residual-in_err-levels.ensures
    ∙ device_fields _ _ (Some c.in_ok-choice.field-0) None _ _ c.digits_of.ensures.0 c.pins_of.ensures (sym c.in_ok-choice.was ∙ c.field.ensures) (sym c.in_err-levels.was ∙ c.field-2.ensures)
    (sym c.starts.ensures ∙ c.if-not-starts.false)

pub returns : goal.returns
returns c =
    device_fields _ _ (Some c.in_ok-choice.field-0) (Some c.in_ok-levels.levels) _ _ c.digits_of.ensures.0 c.pins_of.ensures (sym c.in_ok-choice.was ∙ c.field.ensures) (sym c.in_ok-levels.was ∙ c.field-2.ensures)
    (sym c.starts.ensures ∙ c.if-not-starts.false)
