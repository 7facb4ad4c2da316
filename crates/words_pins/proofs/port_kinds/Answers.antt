-- `words_pins::port_kinds`: a bit a port, five ports at most. Assumes nothing.
use mathlib.Core.Path.{◌∙◌}
use Prim.Native.Nat.{◌/◌}
use native.Mathlib.Nat.{div-add-mod'}
use native.Mathlib.Omega.{arith}
use lib.ListN.{get_or}
use Rattle.bits.proofs.Laws.{bit_mod}
use Rattle.words_pins.proofs.port_kinds.Goals as goal

pub returns : goal.returns
returns c = λ i h. c.spread.ensures i ∙ bit_mod 5 (get_or c.args.words.now 7 0) (i / 8) (omega (arith, h, div-add-mod' i 8))
