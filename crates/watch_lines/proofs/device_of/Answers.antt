-- `watch_lines::device_of`: each way out is a law of `device_of`: too short, no tab, its fields, of which either may be none. Assumes nothing.
use mathlib.Core.Path.{refl, sym, ◌∙◌}
use Rattle.watch_lines.proofs.Laws.{device_short, device_no_tab, device_fields}
use Rattle.watch_lines.proofs.device_of.Goals as goal

pub returns-then-s-at : goal.returns-then-s-at
returns-then-s-at c = device_short _ _ _ c.digits_of-digits.ensures.0 c.if-s-at.true

pub returns-then-not-starts : goal.returns-then-not-starts
returns-then-not-starts c = device_no_tab _ _ _ c.digits_of-digits.ensures.0 (sym c.starts.ensures ∙ c.if-not-starts.true)

pub returns-in_err-made : goal.returns-in_err-made
returns-in_err-made c =
    c.from_residual.ensures
    ∙ device_fields _ _ _ c.digits_of-digits.ensures.0 _ refl (sym c.in_err-made.was ∙ c.device_of.ensures) refl (sym c.starts.ensures ∙ c.if-not-starts.false)

pub returns-in_err-healthy : goal.returns-in_err-healthy
returns-in_err-healthy c =
    c.from_residual-in_err-healthy.ensures
    ∙ device_fields _ _ _ c.digits_of-digits.ensures.0 _ c.pins_of.ensures (sym c.in_ok-made.was ∙ c.device_of.ensures) (sym c.in_err-healthy.was ∙ c.field.ensures) (sym c.starts.ensures ∙ c.if-not-starts.false)

pub returns : goal.returns
returns c =
    device_fields _ _ _ c.digits_of-digits.ensures.0 _ c.pins_of.ensures (sym c.in_ok-made.was ∙ c.device_of.ensures) (sym c.in_ok-healthy.was ∙ c.field.ensures) (sym c.starts.ensures ∙ c.if-not-starts.false)
