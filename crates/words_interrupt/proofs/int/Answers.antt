-- `words_interrupt::int`: the line that is kept right is INT's (`line_right`). Assumes nothing.
use Rattle.map.specs.Map.{part_of}
use Rattle.words.specs.Words.{core_in, interrupt_in}
use Rattle.registers.proofs.Kept.{line_right}
use Rattle.words_interrupt.proofs.int.Goals as goal

pub returns : goal.returns
returns c =
    let w = c.args.words.now in
    λ part right. line_right (part_of part) (core_in (part_of part) w) (interrupt_in w) right
