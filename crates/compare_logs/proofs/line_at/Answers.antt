-- `compare_logs::line_at`: the line ends at the first newline from its place on, or with the answers. Assumes nothing.
use Rattle.compare_logs.proofs.Laws.{line_here}
use Rattle.compare_logs.proofs.line_at.Goals as goal

pub returns-clause-line : goal.returns-clause-line
returns-clause-line c =
    line_here c.args.answers.now c.args.from c.first_line-line.result.len c.requires c.first_line-line.ensures.ends c.first_line-line.ensures.inside
