-- `watch_lines::read_own`: each test decides one step of `own_of`; a line that begins with a word is as long as the word. Assumes nothing.
use borrow.Author.Rules.{rules}
use mathlib.Core.Path.{sym, ap, ◌∙◌}
use native.Mathlib.Omega.{arith}
use Rattle.text.proofs.Laws.{field_small}
use Rattle.trace_lines.specs.Lines.{device, device34}
use Rattle.trace_lines.proofs.Laws.{starts_long}
use Rattle.watch_lines.specs.Watching.{sign, sign_with}
use Rattle.watch_lines.proofs.Laws.{own_long, own_sign, own_device, own_sister, own_none}
use Rattle.watch_lines.proofs.read_own.Goals as goal

pub returns-then-line-gt-LONGEST : goal.returns-then-line-gt-LONGEST
returns-then-line-gt-LONGEST c = own_long _ (omega (arith, c.if-line-gt-LONGEST.true))

pub slice_bounds-field-count : goal.slice_bounds-field-count
slice_bounds-field-count c = let l = starts_long sign _ (sym c.starts.ensures ∙ c.if-starts.true) in search rules

pub slice_bounds-field-start : goal.slice_bounds-field-start
slice_bounds-field-start c = let l = starts_long sign _ (sym c.starts.ensures ∙ c.if-starts.true) in search rules

pub returns-in_err-pin : goal.returns-in_err-pin
returns-in_err-pin c =
    c.from_residual.ensures
    ∙ ap sign_with (sym c.in_err-pin.was ∙ c.field.ensures)
    ∙ own_sign _ (omega (arith, c.if-line-gt-LONGEST.false)) (sym c.starts.ensures ∙ c.if-starts.true)

pub overflow_cast-pin : goal.overflow_cast-pin
overflow_cast-pin c = let few = (field_small 2 0xff _).small _ (sym c.field.ensures ∙ c.in_ok-pin.was) in search rules

pub returns-then-starts : goal.returns-then-starts
returns-then-starts c =
    ap sign_with (sym c.in_ok-pin.was ∙ c.field.ensures)
    ∙ own_sign _ (omega (arith, c.if-line-gt-LONGEST.false)) (sym c.starts.ensures ∙ c.if-starts.true)

pub slice_bounds-device_of-count : goal.slice_bounds-device_of-count
slice_bounds-device_of-count c = let l = starts_long device _ (sym c.starts-2.ensures ∙ c.if-starts-2.true) in search rules

pub slice_bounds-device_of-start : goal.slice_bounds-device_of-start
slice_bounds-device_of-start c = let l = starts_long device _ (sym c.starts-2.ensures ∙ c.if-starts-2.true) in search rules

pub returns-then-starts-2 : goal.returns-then-starts-2
returns-then-starts-2 c = c.device_of.ensures ∙ own_device _ (omega (arith, c.if-line-gt-LONGEST.false)) (sym c.starts.ensures ∙ c.if-starts.false) (sym c.starts-2.ensures ∙ c.if-starts-2.true)

pub slice_bounds-device_of-count-then-starts-3 : goal.slice_bounds-device_of-count-then-starts-3
slice_bounds-device_of-count-then-starts-3 c = let l = starts_long device34 _ (sym c.starts-3.ensures ∙ c.if-starts-3.true) in search rules

pub slice_bounds-device_of-start-then-starts-3 : goal.slice_bounds-device_of-start-then-starts-3
slice_bounds-device_of-start-then-starts-3 c = let l = starts_long device34 _ (sym c.starts-3.ensures ∙ c.if-starts-3.true) in search rules

pub returns-then-starts-3 : goal.returns-then-starts-3
returns-then-starts-3 c = c.device_of-then-starts-3.ensures ∙ own_sister _ (omega (arith, c.if-line-gt-LONGEST.false)) (sym c.starts.ensures ∙ c.if-starts.false) (sym c.starts-2.ensures ∙ c.if-starts-2.false) (sym c.starts-3.ensures ∙ c.if-starts-3.true)

pub returns : goal.returns
returns c = own_none _ (omega (arith, c.if-line-gt-LONGEST.false)) (sym c.starts.ensures ∙ c.if-starts.false) (sym c.starts-2.ensures ∙ c.if-starts-2.false) (sym c.starts-3.ensures ∙ c.if-starts-3.false)
