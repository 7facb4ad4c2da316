-- `run`: the loop; the invariant is `Running`. Assumes nothing.
use lib.ListN.{get_or}
use Rattle.words_runs.proofs.Running.{Running}
use Rattle.words_runs.proofs.run.Given as goal

abbrev pub invariant-loop-i : goal.invariant-loop-i
invariant-loop-i l = Running (get_or l.initial.words 27 0) l.initial.words l.events l.asked l.initial.answers l.words l.answers l.i
