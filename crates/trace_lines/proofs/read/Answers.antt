-- `trace_lines::read`: each test decides one step of `line_of`. Assumes nothing.
use mathlib.Core.Path.{sym, ◌∙◌}
use native.Mathlib.Omega.{arith}
use Rattle.map.specs.Map.{part_of}
use Rattle.trace_lines.proofs.Laws.{line_long, line_start, line_stop, line_reset, line_fields}
use Rattle.trace_lines.proofs.read.Goals as goal

pub returns-then-line-gt-LONGEST : goal.returns-then-line-gt-LONGEST
returns-then-line-gt-LONGEST c = line_long (part_of c.args.part) c.args.line.now (omega (arith, c.if-line-gt-LONGEST.true))

pub returns-then-is : goal.returns-then-is
returns-then-is c =
    line_start (part_of c.args.part) c.args.line.now (omega (arith, c.if-line-gt-LONGEST.false)) (sym c.is.ensures ∙ c.if-is.true)

pub returns-then-is-2 : goal.returns-then-is-2
returns-then-is-2 c =
    line_stop (part_of c.args.part) c.args.line.now (omega (arith, c.if-line-gt-LONGEST.false)) (sym c.is.ensures ∙ c.if-is.false)
    (sym c.is-2.ensures ∙ c.if-is-2.true)

pub returns-then-is-3 : goal.returns-then-is-3
returns-then-is-3 c =
    line_reset (part_of c.args.part) c.args.line.now (omega (arith, c.if-line-gt-LONGEST.false)) (sym c.is.ensures ∙ c.if-is.false)
    (sym c.is-2.ensures ∙ c.if-is-2.false) (sym c.is-3.ensures ∙ c.if-is-3.true)

pub returns : goal.returns
returns c =
    c.read_fields.ensures
    ∙ line_fields (part_of c.args.part) c.args.line.now (omega (arith, c.if-line-gt-LONGEST.false)) (sym c.is.ensures ∙ c.if-is.false)
    (sym c.is-2.ensures ∙ c.if-is-2.false) (sym c.is-3.ensures ∙ c.if-is-3.false)
