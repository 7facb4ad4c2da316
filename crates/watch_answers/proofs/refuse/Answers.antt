-- `watch_answers::refuse`: 7 has one digit. Assumes nothing.
use Rattle.watch_answers.specs.Marked.{refusal_line}
use Rattle.watch_answers.proofs.refuse.Goals as goal

pub returns : goal.returns
unfolding refusal_line
returns c = c.put_refused.ensures
