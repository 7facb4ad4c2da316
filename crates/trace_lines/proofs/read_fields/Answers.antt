-- `trace_lines::read_fields`: each test decides one step of `fields_of`; a line that begins with a word is as long as the word. Assumes nothing.
use borrow.Author.Rules.{rules}
use mathlib.Core.Path.{refl, ap, sym, ◌∙◌}
use native.Mathlib.Omega.{arith}
use Rattle.map.specs.Map.{part_of}
use Rattle.trace_lines.specs.Lines.{made_line, fields_of, byte, fetch, pins}
use Rattle.trace_lines.proofs.Laws.{starts_long, fields_fetch, fields_pins, fields_device}
use Rattle.trace_lines.proofs.read_fields.Goals as goal

pub event_at-requires : goal.event_at-requires
event_at-requires c = (starts_long byte _ (sym c.starts.ensures ∙ c.if-starts.true), search rules)

pub returns-then-starts : goal.returns-then-starts
unfolding fields_of
returns-then-starts c = c.event_at.ensures ∙ rw (sym c.starts.ensures ∙ c.if-starts.true) refl

pub event_at-requires-then-starts-2 : goal.event_at-requires-then-starts-2
event_at-requires-then-starts-2 c = (starts_long fetch _ (sym c.starts-2.ensures ∙ c.if-starts-2.true), search rules)

pub returns-then-starts-2 : goal.returns-then-starts-2
returns-then-starts-2 c =
    c.event_at-then-starts-2.ensures
    ∙ fields_fetch (part_of c.args.part) _ (sym c.starts.ensures ∙ c.if-starts.false) (sym c.starts-2.ensures ∙ c.if-starts-2.true)

pub event_at-requires-then-starts-3 : goal.event_at-requires-then-starts-3
event_at-requires-then-starts-3 c =
    (starts_long pins _ (sym c.starts-3.ensures ∙ c.if-starts-3.true), omega (arith, c.digits_of-digits.ensures.1))

pub returns-then-starts-3 : goal.returns-then-starts-3
returns-then-starts-3 c =
    c.event_at-then-starts-3.ensures
    ∙ fields_pins (part_of c.args.part) _ (sym c.starts.ensures ∙ c.if-starts.false) (sym c.starts-2.ensures ∙ c.if-starts-2.false)
    _ _ c.digits_of-digits.ensures.0 c.pins_of.ensures (sym c.starts-3.ensures ∙ c.if-starts-3.true)

pub returns-in_err-made : goal.returns-in_err-made
returns-in_err-made c =
    c.from_residual.ensures
    ∙ ap made_line (sym c.in_err-made.was ∙ c.read_device.ensures)
    ∙ fields_device (part_of c.args.part) _ (sym c.starts.ensures ∙ c.if-starts.false) (sym c.starts-2.ensures ∙ c.if-starts-2.false)
    (sym c.starts-3.ensures ∙ c.if-starts-3.false)

pub returns : goal.returns
returns c =
    ap made_line (sym c.in_ok-made.was ∙ c.read_device.ensures)
    ∙ fields_device (part_of c.args.part) _ (sym c.starts.ensures ∙ c.if-starts.false) (sym c.starts-2.ensures ∙ c.if-starts-2.false)
    (sym c.starts-3.ensures ∙ c.if-starts-3.false)
