-- `words_faults::stale`: what is kept against what is worked out (`status_worked`, `line_worked`). Assumes nothing.
use mathlib.Core.Path.{sym, ap, ◌∙◌}
use lib.ListN.{get_or}
use Rattle.map.specs.Map.{part_of}
use Rattle.registers.specs.Interrupt.{Interrupt}
use Rattle.registers.proofs.Kept.{same_interrupt}
use Rattle.words.proofs.Sound.{sound}
use Rattle.words.proofs.Seen.{status_worked, line_worked}
use Rattle.words_faults.proofs.Alike.{stale_zero, zero_stale}
use Rattle.words_faults.proofs.stale.Goals as goal

pub returns : goal.returns
returns c =
    let w = c.args.words.now in
    λ k fit.
    let s = status_worked (part_of k) (sound k) w _ fit c.statuses-status.ensures in
    let l = line_worked (part_of k) (sound k) w _ _ s c.line_of-line.ensures in (
      λ e. (let z = stale_zero (get_or w 19 0) (get_or w 20 0) _ _ e in same_interrupt (z.0 ∙ s) (z.1 ∙ l)),
      λ q. zero_stale (get_or w 19 0) (get_or w 20 0) (ap (λ (k : Interrupt). k.status) q ∙ sym s) (ap (λ (k : Interrupt). k.line) q ∙ sym l),
    )
