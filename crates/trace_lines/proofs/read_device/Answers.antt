-- `trace_lines::read_device`: each test decides one step of `devices_of`; a line that begins with a word is as long as the word. Assumes nothing.
use borrow.Author.Rules.{rules}
use mathlib.Core.Path.{sym, ◌∙◌}
use Rattle.trace_lines.specs.Lines.{device, device34}
use Rattle.trace_lines.proofs.Laws.{starts_long, devices_one, devices_other, devices_none}
use Rattle.trace_lines.proofs.read_device.Goals as goal

pub slice_bounds-device_of-count : goal.slice_bounds-device_of-count
slice_bounds-device_of-count c = let l = starts_long device _ (sym c.starts.ensures ∙ c.if-starts.true) in search rules

pub slice_bounds-device_of-start : goal.slice_bounds-device_of-start
slice_bounds-device_of-start c = let l = starts_long device _ (sym c.starts.ensures ∙ c.if-starts.true) in search rules

pub returns-then-starts : goal.returns-then-starts
returns-then-starts c = c.device_of.ensures ∙ devices_one _ (sym c.starts.ensures ∙ c.if-starts.true)

pub slice_bounds-device_of-count-then-starts-2 : goal.slice_bounds-device_of-count-then-starts-2
slice_bounds-device_of-count-then-starts-2 c = let l = starts_long device34 _ (sym c.starts-2.ensures ∙ c.if-starts-2.true) in search rules

pub slice_bounds-device_of-start-then-starts-2 : goal.slice_bounds-device_of-start-then-starts-2
slice_bounds-device_of-start-then-starts-2 c = let l = starts_long device34 _ (sym c.starts-2.ensures ∙ c.if-starts-2.true) in search rules

pub returns-then-starts-2 : goal.returns-then-starts-2
returns-then-starts-2 c =
    c.device_of-then-starts-2.ensures ∙ devices_other _ (sym c.starts.ensures ∙ c.if-starts.false) (sym c.starts-2.ensures ∙ c.if-starts-2.true)

pub returns : goal.returns
returns c =
    devices_none _ (sym c.starts.ensures ∙ c.if-starts.false) (sym c.starts-2.ensures ∙ c.if-starts-2.false)
