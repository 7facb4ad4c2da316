-- `probe_fields::is_readable`: at each turn the rest of the form and of the line decide as the whole did. Assumes nothing.
use mathlib.Core.Path.{◌≡◌}
use lib.ListN.{drop}
use Rattle.probe_fields.specs.Fields.{readable, has_form, line_form}
use Rattle.probe_fields.proofs.is_readable.Given as goal

abbrev pub invariant-loop-i : goal.invariant-loop-i
invariant-loop-i l = readable l.line ≡ has_form (drop l.i line_form) (drop l.i l.line)
