-- `words_entries::half`: a mask of four bits. Assumes nothing.
use mathlib.Core.Path.{refl}
use Prim.Native.Nat.{◌*◌, ◌/◌, ◌^◌}
use native.Mathlib.Omega.{arith}
use lib.Bits.{mask_lt}
use Rattle.words_entries.proofs.half.Goals as goal

pub overflow_cast-result-2 : goal.overflow_cast-result-2
overflow_cast-result-2 c = record { fits = omega (arith, mask_lt (c.args.word / 2 ^ (4 * c.args.k)) 4) }

pub returns : goal.returns
returns c = (refl, mask_lt (c.args.word / 2 ^ (4 * c.args.k)) 4)
