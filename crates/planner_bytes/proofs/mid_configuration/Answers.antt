-- `planner_bytes::mid_configuration`: bit by bit the definition. Assumes nothing.
use Rattle.planner_bytes.proofs.Bytes.{configuration_set}
use Rattle.planner_bytes.proofs.mid_configuration.Goals as goal

pub returns : goal.returns
returns c = configuration_set _ _
