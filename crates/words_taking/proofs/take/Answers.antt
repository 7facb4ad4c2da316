-- `take`: the event's three words, and then `one`. Assumes nothing.
use Rattle.words_state.proofs.Left.{by_rule}
use Rattle.words_taking.proofs.take.Goals as goal

pub returns : goal.returns
returns c =
    λ p k. by_rule (c.one.ensures p k) (rw (c.word_at-kind.ensures, c.word_at-arg.ensures, c.word_at-third.ensures))
