-- `compare_logs::compare`: the part of the answers from there to there. Assumes nothing.
use Rattle.compare_logs.proofs.Laws.{part_is}
use Rattle.compare_logs.proofs.compare.Goals as goal

pub returns-clause-part : goal.returns-clause-part
returns-clause-part c = part_is c.args.events.now c.args.answers.now c.find-found.ensures
