-- `words_bits::port_pins`: the eight pins of the port that the row names. Assumes nothing.
use mathlib.Core.Path.{ap, ◌∙◌}
use Prim.Native.Nat.{ℕ}
use Rattle.ports.specs.Ports.{in_port}
use Rattle.words_bits.proofs.port_pins.Goals as goal

pub returns : goal.returns
returns c = λ part n h e one i. c.port_set.ensures i ∙ ap (λ (k : ℕ). in_port k i) (c.port.ensures.0 part n h e one)
