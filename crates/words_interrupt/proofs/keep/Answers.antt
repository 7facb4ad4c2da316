-- `words_interrupt::keep`: the status set of the pins (`status_worked`), and its line (`line_worked`). Assumes nothing.
use mathlib.Core.Path.{ap₂}
use Prim.Native.Nat.{ℕ}
use lib.ListN.{set}
use Rattle.map.specs.Map.{part_of}
use Rattle.words.proofs.Sound.{sound}
use Rattle.words.proofs.Seen.{status_worked, line_worked}
use Rattle.words_interrupt.proofs.keep.Goals as goal

pub returns : goal.returns
returns c =
    let w = c.args.words.now in
    λ part fit.
    let right = status_worked (part_of part) (sound part) w _ fit c.statuses-status.ensures in
    ap₂ (λ (status line : ℕ). set (set w 19 status) 20 line) right (line_worked (part_of part) (sound part) w _ _ right c.line_of.ensures)
