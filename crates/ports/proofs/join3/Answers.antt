-- `ports::join3`: bit by bit (`joined3`). Assumes nothing.
use Rattle.ports.proofs.Bytes.{joined3}
use Rattle.ports.proofs.join3.Goals as goal

pub returns : goal.returns
returns c = joined3 c.args.a c.args.b c.args.c c.ranges.a.fits c.ranges.b.fits c.ranges.c.fits
