-- `ports::byte_of`: a shift and a mask give the digit (`digit_of_lem`). Assumes nothing.
use Prim.Native.Nat.{◌*◌, ◌/◌, ◌^◌}
use lib.Bits.{mask_lt}
use Rattle.bits.proofs.Join.{digit_of_lem}
use Rattle.ports.proofs.byte_of.Goals as goal

pub overflow_cast-result-2 : goal.overflow_cast-result-2
overflow_cast-result-2 c = record { fits = mask_lt (c.args.s / 2 ^ (8 * c.args.k)) 8 }

pub returns : goal.returns
returns c = digit_of_lem 8 c.args.s (8 * c.args.k)
