-- What is known of a device that is not refused. Assumes nothing.
use mathlib.Core.Path.{◌≡◌, refl, sym, ap}
use mathlib.Core.Bool.{Bool, true, false, cond, ◌&&◌}
use Prim.Native.Nat.{ℕ, ◌^◌, ◌<◌}
use native.Mathlib.Omega.{arith}
use borrow.Author.Tests.{leb-true, ltb-true}
use lib.Dec.{eqb, leb, ltb}
use Rattle.bits.proofs.Decide.{and_left, and_right}
use Rattle.map.specs.Map.{Part}
use Rattle.device_rules.specs.PowerOn.{making_refused}
use Rattle.device_making.specs.Refused.{number_of}
use Rattle.device_making.specs.declared.Refusal.{Refusal}
use Rattle.device_making.specs.declared.Refusal.TheVariants.{BadArgument, BadImage}

passed : (t : Bool) → ◌≡◌ {A = ℕ} 0 (cond t 0 2) → t ≡ true
passed true e = refl
passed false e = sym (ap (λ (n : ℕ). eqb n 0) e)

pub unrefused : (p : Part) (choice levels id : ℕ) → 0 ≡ making_refused p choice levels id → (choice < 4) × (levels < 2 ^ p.width) × (id < 2 ^ 24)
unrefused p choice levels id e =
    let a = leb choice 3 in
    let b = ltb levels (2 ^ p.width) in
    let c = ltb id (2 ^ 24) in
    let all = passed (a && (b && c)) e in
    let rest = and_right a (b && c) all in
    (omega (arith, leb-true choice 3 (and_left a (b && c) all)), ltb-true levels (2 ^ p.width) (and_left b c rest), ltb-true id (2 ^ 24) (and_right b c rest))

-- every refusal has a number
pub numbered : (e : Refusal) → number_of e ≡ 0 → ⊥
numbered BadArgument h = omega arith
numbered BadImage h = omega arith
