-- `planner_bytes::mid_output`: bit by bit the definition (`output_set`). Assumes nothing.
use Rattle.planner_bytes.proofs.Bytes.{output_set}
use Rattle.planner_bytes.proofs.mid_output.Goals as goal

pub returns : goal.returns
returns c = output_set _ _ _ c.mid_configuration.ensures
