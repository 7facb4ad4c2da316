-- `watch_logs::put_header`: the bytes of the text are the header. Assumes nothing.
use Rattle.text.proofs.Laws.{wrote_length}
use Rattle.watch_logs.specs.Logs.{header}
use native.Mathlib.Omega.{arith}
use Rattle.watch_logs.proofs.put_header.Goals as goal

pub returns : goal.returns
unfolding header
returns c = let w = c.put.ensures in (w, omega (arith, w.ends, wrote_length w))
