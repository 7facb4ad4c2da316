-- `words_rows::fourth`: what a row was put together from, taken out again. Assumes nothing.
use Prim.Native.Nat.{◌/◌, ◌^◌}
use native.Mathlib.Omega.{arith}
use lib.Bits.{mask_lt}
use Rattle.words_rows.proofs.Taken.{fourth_of}
use Rattle.words_rows.proofs.fourth.Goals as goal

pub overflow_cast-result : goal.overflow_cast-result
overflow_cast-result c = record { fits = omega (arith, mask_lt (c.args.row / 2 ^ 11) 4) }

pub returns : goal.returns
returns c = (λ part n h e. fourth_of c.args.row part n h e, mask_lt (c.args.row / 2 ^ 11) 4)
