-- `words_rows::successor`: what a row was put together from, taken out again. Assumes nothing.
use native.Mathlib.Omega.{arith}
use Prim.Native.Nat.{◌/◌, ◌^◌}
use lib.Bits.{mask_lt}
use Rattle.words_rows.proofs.Taken.{successor_of}
use Rattle.words_rows.proofs.successor.Goals as goal

pub overflow_cast-result : goal.overflow_cast-result
overflow_cast-result c = record { fits = omega (arith, mask_lt (c.args.row / 2 ^ 15) 7) }

pub returns : goal.returns
returns c = λ part n h e. successor_of c.args.row part n h e
