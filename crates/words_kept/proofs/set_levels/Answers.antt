-- `words_kept::set_levels`: the pins' levels, and what is kept of the interrupt after them (`rung`). Assumes nothing.
use Rattle.words_state.proofs.Left.{rung}
use Rattle.words_kept.proofs.set_levels.Goals as goal

pub returns : goal.returns
returns c =
    λ k packed small.
    let h = c.set_levels.ensures k small packed.fit in
    rung k c.args.words.now _ h (c.keep.ensures k h.fit)
