-- What the code computes with whole pin sets is what the rules say of each pin. Assumes nothing.
use mathlib.Core.Path.{◌≡◌, ap}
use mathlib.Core.Bool.{Bool, not, ◌&&◌, ◌||◌}
use Prim.Native.Nat.{ℕ}
use lib.Bits.{bit_and, bit_or, bit_xor}
use Rattle.bits.specs.Bits.{bit, differs, without}
use Rattle.bits.proofs.Laws.{pinwise, bit_without}
use Rattle.bits.proofs.Decide.{taut}
use Rattle.pins.specs.Pin.{drive, is_high, open_drain}
use Rattle.planner_quiet.specs.Order.{stuck}
use Rattle.planner_quiet.specs.Route.{mid_configuration, mid_output}
use Rattle.planner_bytes.specs.Bytes.{pin_in}
use Rattle.planner_bytes.specs.declared.PinSets.{PinSets}
use Rattle.planner_quiet.proofs.Pin.{bits}

-- ---- one pin
configuration_one : (os cs ps ks og cg pg kg : Bool)
    → (((differs os og || differs cs cg || differs ps pg || differs ks kg) && (cs || (os && differs ps ks) || (cg || (og && differs pg kg))))
    || (cs && not (differs os og || differs cs cg || differs ps pg || differs ks kg)))
    ≡ mid_configuration (bits os cs ps ks) (bits og cg pg kg)
unfolding mid_configuration
configuration_one = taut 8 _ _ tt

stuck_one : (os cs ps ks og cg pg kg : Bool)
    → ((os && not (cs || differs ps ks)) && (og && not (cg || differs pg kg)) && differs ps pg) ≡ stuck (bits os cs ps ks) (bits og cg pg kg)
unfolding drive is_high open_drain
stuck_one = taut 8 _ _ tt

-- ---- all pins
module _ (s g : PinSets) where
  abbrev change : ℕ
  change =
      bit_or (bit_or (bit_or (bit_xor s.output g.output) (bit_xor s.configuration g.configuration)) (bit_xor s.kind g.kind)) (bit_xor s.flip g.flip)

  pub configuration_set : (i : ℕ)
      → bit (bit_or (bit_and change
      (bit_or (bit_or s.configuration (bit_and s.output (bit_xor s.kind s.flip))) (bit_or g.configuration (bit_and g.output (bit_xor g.kind g.flip)))))
      (without s.configuration change)) i
      ≡ mid_configuration (pin_in s i) (pin_in g i)
  configuration_set i = simp (bit_without, pinwise) (configuration_one _ _ _ _ _ _ _ _)

  pub output_set : (m : ℕ) → ((i : ℕ) → bit m i ≡ mid_configuration (pin_in s i) (pin_in g i))
      → (i : ℕ) → bit (bit_and s.output (bit_or g.output m)) i ≡ mid_output (pin_in s i) (pin_in g i)
  unfolding mid_output
  output_set m e i = simp pinwise (ap (λ (b : Bool). bit s.output i && (bit g.output i || b)) (e i))

  abbrev high : PinSets → ℕ
  high x = without x.output (bit_or x.configuration (bit_xor x.kind x.flip))

  pub stuck_set : (i : ℕ) → bit (bit_and (bit_and (high s) (high g)) (bit_xor s.kind g.kind)) i ≡ stuck (pin_in s i) (pin_in g i)
  stuck_set i = simp (bit_without, pinwise) (stuck_one _ _ _ _ _ _ _ _)
