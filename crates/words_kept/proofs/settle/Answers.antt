-- `words_kept::settle`: the register's own fetch, and what is kept of the interrupt after it (`rung`, `unrung`). Assumes nothing.
use native.Mathlib.Omega.{arith}
use borrow.Author.Tests.{ne_eqb}
use lib.ListN.{get_or}
use Rattle.map.specs.Map.{part_of}
use Rattle.registers.proofs.Kept.{unrung_fetched}
use Rattle.words.specs.Words.{core_in, interrupt_in}
use Rattle.words_rows.proofs.Taken.{known_small, low_rule}
use Rattle.words_state.proofs.Left.{rung, unrung}
use Rattle.words_kept.proofs.settle.Goals as goal

pub returns-then-rule-eq-INPUT : goal.returns-then-rule-eq-INPUT
returns-then-rule-eq-INPUT c =
    let a = c.args in
    let w = a.words.now in
    λ k packed e.
    let h = c.settle.ensures k (get_or w 21 0) packed.pointer_known e packed.fit in
    rung k w _ h (c.keep.ensures k h.fit)

pub returns-else-rule-eq-INPUT : goal.returns-else-rule-eq-INPUT
returns-else-rule-eq-INPUT c =
    let a = c.args in
    let w = a.words.now in
    let n = get_or w 21 0 in
    λ k packed e.
    let hn = known_small a.row k n packed.pointer_known e in
    unrung k w _ (c.settle.ensures k n packed.pointer_known e packed.fit)
    (unrung_fetched (part_of k) (core_in (part_of k) w) (interrupt_in w) packed.right n
    (ne_eqb _ 1 (λ z. c.if-rule-eq-INPUT.false (low_rule k n _ hn (c.rule.ensures k n hn e) 1 (omega arith) z))))
