-- The part that is asked: its settings are short, and its plan has room in the larger buffer too. Assumes nothing.
use mathlib.Core.Path.{◌≡◌, refl}
use mathlib.Core.List.{List}
use Prim.Native.Nat.{ℕ, zero, suc, ◌≤◌}
use native.Mathlib.Omega.{arith}
use lib.ListN.{length}
use Rattle.map.specs.Map.{part_of}
use Rattle.planner_quiet.specs.Settings.{registers_of}
use Rattle.planner_promise.specs.Formed.{room_for}
use Rattle.planner_promise.specs.Answer.{answer_of}

pub few_bytes : (part : ℕ) → length (registers_of (part_of part)) ≤ 16
few_bytes zero = omega arith
few_bytes (suc part) = omega arith

pub roomy : (part : ℕ) (s g : List ℕ) → answer_of (part_of part) s g 52 ≡ answer_of (part_of part) s g (room_for (part_of part))
unfolding answer_of
roomy zero s g = refl
roomy (suc part) s g = refl
