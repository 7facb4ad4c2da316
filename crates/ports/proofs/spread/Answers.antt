-- `ports::spread`: bit by bit (`spread_bit`). Assumes nothing.
use Prim.Native.Nat.{◌*◌}
use native.Mathlib.Omega.{arith}
use lib.Bits.{and_le_r}
use Rattle.ports.proofs.Bytes.{spread_bit}
use Rattle.ports.proofs.spread.Goals as goal

pub returns : goal.returns
returns c = spread_bit c.args.byte c.requires

pub overflow_mul-result : goal.overflow_mul-result
overflow_mul-result c = record { fits = omega (arith, and_le_r (c.args.byte * 0x1020_4081) 0x01_0101_0101) }
