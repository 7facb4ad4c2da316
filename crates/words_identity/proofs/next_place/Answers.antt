-- `words_identity::next_place`: by the place. Assumes nothing.
use mathlib.Core.Path.{◌≡◌, refl, sym, ap}
use Prim.Native.Nat.{ℕ, zero, suc, ◌<◌}
use native.Mathlib.Omega.{arith}
use Rattle.device_rules.specs.Device.{next_place}
use Rattle.words_identity.proofs.next_place.Goals as goal

pub returns-in-0 : goal.returns-in-0
returns-in-0 c = (λ h. sym (ap next_place c.in-0.is), omega arith)

pub returns-in-1 : goal.returns-in-1
returns-in-1 c = (λ h. sym (ap next_place c.in-1.is), omega arith)

round : (place : ℕ) → place < 3 → (place ≡ 0 → ⊥) → (place ≡ 1 → ⊥) → 0 ≡ next_place place
round zero h y z = absurd (y refl)
round (suc zero) h y z = absurd (z refl)
round (suc (suc place)) h y z = refl

pub returns-in_default : goal.returns-in_default
returns-in_default c = (λ h. round c.args.place h c.in_default.in_default-own.rest.0.1 c.in_default.in_default-own.rest.1, omega arith)
