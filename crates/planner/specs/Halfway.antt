-- What the code knows of the middle of a plan.
use Rattle.std.specs.Prelude.{◌≡◌, ℕ}
use Rattle.bits.specs.Bits.{bit}
use Rattle.planner_quiet.specs.Route.{mid_output, mid_configuration}
use Rattle.planner_bytes.specs.Bytes.{pin_in}
use Rattle.planner_bytes.specs.declared.PinSets.{PinSets}

-- the pin sets in the middle of the plan
pub record Halfway (s g m : PinSets) : Type 0 where
  pub outputs : (i : ℕ) → bit m.output i ≡ mid_output (pin_in s i) (pin_in g i)
  pub configurations : (i : ℕ) → bit m.configuration i ≡ mid_configuration (pin_in s i) (pin_in g i)
  pub flips : m.flip ≡ s.flip
