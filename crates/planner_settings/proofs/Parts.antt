-- Parts by their numbers, each as the planner's theorems ask for it. Assumes nothing.
use Prim.Native.Nat.{ℕ, zero, suc}
use Rattle.map.specs.Map.{part_of}
use Rattle.map.specs.declared.Chip.TheVariants.{Pcal6524, Pcal6534}
use Rattle.planner_quiet.proofs.Plannable.{Plannable, plannable}

pub plannable_of : (part : ℕ) → Plannable (part_of part)
plannable_of zero = plannable Pcal6524
plannable_of (suc part) = plannable Pcal6534
