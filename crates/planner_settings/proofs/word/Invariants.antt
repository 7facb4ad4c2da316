-- `planner_settings::word`: from the last byte down, each below those before; the invariant is `Reading`. Assumes nothing.
use Rattle.planner_settings.proofs.Words.{Reading}
use Rattle.planner_settings.proofs.word.Given as goal

abbrev pub invariant-loop-k : goal.invariant-loop-k
invariant-loop-k l = Reading l.s l.at l.n l.w l.k
