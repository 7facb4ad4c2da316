-- `ports::at_edge`: a shift by four pins a register places its bits (`placed`). Assumes nothing.
use Rattle.bits.proofs.Join.{placed}
use Prim.Native.Nat.{◌*◌}
use native.Mathlib.Omega.{arith}
use Rattle.ports.proofs.at_edge.Goals as goal

pub returns : goal.returns
returns c = λ i. placed 4 c.args.k (4 * c.args.k) (omega arith) (omega arith) 64 c.args.bits i c.requires.0 (omega (arith, c.requires.1))
