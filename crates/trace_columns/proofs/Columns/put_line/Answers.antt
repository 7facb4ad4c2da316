-- `trace_columns::Columns::put_line`: the text that is kept holds the columns of the device in the words (`kept_line`). Assumes nothing.
use Rattle.trace_columns.proofs.Laws.{kept_line}
use Rattle.trace_columns.proofs.Columns.put_line.Goals as goal

pub returns : goal.returns
returns c = kept_line c.args.self.now c.args.answer c.requires.0 c.requires.1 c.requires.2 c.put_line.ensures
