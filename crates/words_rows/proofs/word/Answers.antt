-- `words_rows::word`: what a row was put together from, taken out again. Assumes nothing.
use native.Mathlib.Omega.{arith}
use mathlib.Core.Path.{refl}
use Prim.Native.Nat.{◌/◌, ◌^◌}
use lib.Bits.{mask_lt}
use Rattle.words_rows.proofs.Taken.{word_of}
use Rattle.words_rows.proofs.word.Goals as goal

pub overflow_cast-result : goal.overflow_cast-result
overflow_cast-result c = record { fits = omega (arith, mask_lt (c.args.row / 2 ^ 4) 5) }

pub returns : goal.returns
returns c = (λ part n h e. word_of c.args.row part n h e, refl)
