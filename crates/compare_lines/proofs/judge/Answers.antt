-- `compare_lines::judge`: nothing is left, the line is the next, the last without its newline, or neither. Assumes nothing.
use native.Mathlib.Omega.{arith}
use mathlib.Core.Path.{sym, ◌∙◌}
use Rattle.compare_lines.proofs.Laws.{decides_ends, takes_next, takes_last, decides_parts}
use Rattle.compare_lines.proofs.judge.Goals as goal

pub returns-then-answers-eq0 : goal.returns-then-answers-eq0
returns-then-answers-eq0 c = decides_ends _ _ c.if-answers-eq0.true

pub returns-then-begins : goal.returns-then-begins
returns-then-begins c = takes_next _ _ (sym c.begins.ensures ∙ c.if-begins.true)

pub returns-then-is : goal.returns-then-is
returns-then-is c =
    takes_last _ _ (omega (arith, c.if-answers-eq0.false)) (sym c.is.ensures ∙ c.if-is.true)

pub returns : goal.returns
returns c =
    decides_parts _ _ (omega (arith, c.if-answers-eq0.false)) (sym c.begins.ensures ∙ c.if-begins.false) (sym c.is.ensures ∙ c.if-is.false)
