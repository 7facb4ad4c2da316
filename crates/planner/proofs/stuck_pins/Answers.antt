-- `planner::stuck_pins`: the pins of the part's number. Assumes nothing.
use Rattle.planner.proofs.stuck_pins.Goals as goal

pub returns-in-Pcal6524 : goal.returns-in-Pcal6524
returns-in-Pcal6524 c = rw c.in-Pcal6524.is c.stuck_over.ensures

pub returns-in-Pcal6534 : goal.returns-in-Pcal6534
returns-in-Pcal6534 c = rw c.in-Pcal6534.is c.stuck_over-in-Pcal6534.ensures
