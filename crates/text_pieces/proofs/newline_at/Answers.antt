use native.Mathlib.Omega.{arith}
use mathlib.Core.Path.{sym, ◌∙◌}
use Rattle.text_pieces.proofs.Laws.{newline_first, newline_second, newline_third, newline_fourth, newline_later, newline_found, newline_missed}
use Rattle.text_pieces.proofs.newline_at.Goals as goal

pub returns-then-first-eq10 : goal.returns-then-first-eq10
returns-then-first-eq10 c =
    let v = c.loop-left.invariant in
    (newline_first _ _ c.in-len4-up.len_at_least v.0 v.1 c.if-first-eq10.true, omega arith)

pub returns-then-second-eq10 : goal.returns-then-second-eq10
returns-then-second-eq10 c =
    let v = c.loop-left.invariant in
    (newline_second _ _ c.in-len4-up.len_at_least v.0 v.1 c.if-first-eq10.false c.if-second-eq10.true, omega (arith, c.in-len4-up.len_at_least))

pub returns-then-third-eq10 : goal.returns-then-third-eq10
returns-then-third-eq10 c =
    let v = c.loop-left.invariant in
    (newline_third _ _ c.in-len4-up.len_at_least v.0 v.1 c.if-first-eq10.false c.if-second-eq10.false c.if-third-eq10.true, omega (arith, c.in-len4-up.len_at_least))

pub returns-then-fourth-eq10 : goal.returns-then-fourth-eq10
returns-then-fourth-eq10 c =
    let v = c.loop-left.invariant in
    (newline_fourth _ _ c.in-len4-up.len_at_least v.0 v.1 c.if-first-eq10.false c.if-second-eq10.false c.if-third-eq10.false c.if-fourth-eq10.true, omega (arith, c.in-len4-up.len_at_least))

pub loop-left-preserved : goal.loop-left-preserved
loop-left-preserved c =
    let v = c.loop-left.invariant in
    newline_later _ _ c.in-len4-up.len_at_least v.0 v.1 c.if-first-eq10.false c.if-second-eq10.false c.if-third-eq10.false c.if-fourth-eq10.false

pub returns-in-Some : goal.returns-in-Some
returns-in-Some c =
    let v = c.loop-left.invariant in
    newline_found _ _ v.0 v.1 (sym c.newline_in.ensures ∙ c.in-Some.is)

pub returns-in-None : goal.returns-in-None
returns-in-None c =
    let v = c.loop-left.invariant in
    (newline_missed _ _ v.0 v.1 (sym c.newline_in.ensures ∙ c.in-None.is), omega arith)
