-- `words_kept::write`: the register's own write, and what is kept of the interrupt after it (`rung`, `unrung`). Assumes nothing.
use mathlib.Core.Path.{sym, ◌∙◌}
use lib.ListN.{get_or}
use Rattle.map.specs.Map.{part_of}
use Rattle.registers.proofs.Kept.{unrung_written}
use Rattle.words.specs.Words.{core_in, interrupt_in}
use Rattle.words.proofs.Sound.{mapped}
use Rattle.words.proofs.Images.{file_length}
use Rattle.words_rows.proofs.Taken.{known_small}
use Rattle.words_state.proofs.Left.{rung, unrung}
use Rattle.words_kept.proofs.write.Goals as goal

pub returns-then-rings : goal.returns-then-rings
returns-then-rings c =
    let a = c.args in
    let w = a.words.now in
    λ k packed e.
    let h = c.write_register.ensures k (get_or w 21 0) packed.pointer_known e packed.fit in
    rung k w _ h (c.keep.ensures k h.fit)

pub returns-else-rings : goal.returns-else-rings
returns-else-rings c =
    let a = c.args in
    let w = a.words.now in
    let n = get_or w 21 0 in
    λ k packed e.
    let hn = known_small a.row k n packed.pointer_known e in
    unrung k w _ (c.write_register.ensures k n packed.pointer_known e packed.fit)
    (unrung_written (part_of k) (core_in (part_of k) w) (interrupt_in w) packed.right (mapped k) (file_length (part_of k) w) n hn a.value
    (sym (c.rings.ensures k n hn e) ∙ c.if-rings.false))
