-- `trace_columns::Columns::new`: no device has the words that it is told from (`fresh_none`). Assumes nothing.
use native.Mathlib.Omega.{arith}
use Rattle.trace_columns.proofs.Laws.{fresh_none}
use Rattle.trace_columns.proofs.Columns.new.Goals as goal

pub returns : goal.returns
returns c = λ words. fresh_none words _ (omega arith)
