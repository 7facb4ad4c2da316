-- `ports::at_port`: a shift by eight pins a port places its bits (`placed`). Assumes nothing.
use Rattle.bits.proofs.Join.{placed}
use Prim.Native.Nat.{◌*◌}
use native.Mathlib.Omega.{arith}
use Rattle.ports.proofs.at_port.Goals as goal

pub returns : goal.returns
returns c = λ i. placed 8 c.args.k (8 * c.args.k) (omega arith) (omega arith) 64 c.args.byte i c.ranges.byte.fits (omega (arith, c.requires))
