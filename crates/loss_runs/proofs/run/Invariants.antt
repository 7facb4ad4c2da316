-- `run`: the loop; the invariant is that of a burst without marks (`Running`), and `Marking` of the marks. Assumes nothing.
use lib.ListN.{get_or}
use Rattle.words_runs.proofs.Running.{Running}
use Rattle.loss_sets.specs.Sets.{marks_in}
use Rattle.loss_runs.proofs.Marking as marking
use Rattle.loss_runs.proofs.run.Given as goal

abbrev pub invariant-loop-i : goal.invariant-loop-i
invariant-loop-i l = Running (get_or l.initial.words 27 0) l.initial.words l.events l.asked l.initial.answers l.words l.answers l.i × marking.Marking (get_or l.initial.words 27 0) l.initial.words (marks_in l.initial.marks) l.events l.asked l.words (marks_in l.marks) l.i
