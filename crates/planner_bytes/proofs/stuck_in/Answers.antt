-- `planner_bytes::stuck_in`: bit by bit the definition (`stuck_set`). Assumes nothing.
use Rattle.planner_bytes.proofs.Bytes.{stuck_set}
use Rattle.planner_bytes.proofs.stuck_in.Goals as goal

pub returns : goal.returns
returns c = stuck_set _ _
