-- `words_bits::field_pins`: the four pins of the edge register that the row names. Assumes nothing.
use mathlib.Core.Path.{ap, ◌∙◌}
use Prim.Native.Nat.{ℕ}
use Rattle.ports.specs.Ports.{in_edge}
use Rattle.words_bits.proofs.field_pins.Goals as goal

pub returns : goal.returns
returns c = λ part n h e two i. c.edge_set.ensures i ∙ ap (λ (k : ℕ). in_edge k i) (c.fourth.ensures.0 part n h e two)
