-- `step`: the step on words, told in numbers (`told_of`). Assumes nothing.
use Rattle.host_words.proofs.Laws.{told_of}
use Rattle.host_calls.proofs.step.Goals as goal

pub returns : goal.returns
returns c =
    told_of _ _ _ _ _ _ _ _ _ c.step-stepped.ensures c.tell.ensures.0 c.tell.ensures.1
