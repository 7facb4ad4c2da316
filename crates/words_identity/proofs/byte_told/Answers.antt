-- `words_identity::byte_told`: by the place. Assumes nothing.
use mathlib.Core.Path.{◌≡◌, refl, sym, ap}
use Prim.Native.Nat.{ℕ, zero, suc, ◌<◌}
use native.Mathlib.Omega.{arith}
use lib.ListN.{get_or}
use Rattle.device_rules.specs.Device.{identity, byte_at}
use Rattle.words_identity.proofs.byte_told.Goals as goal

last : (place : ℕ) → place < 3 → (place ≡ 0 → ⊥) → (place ≡ 1 → ⊥) → place ≡ 2
last zero h y z = absurd (y refl)
last (suc zero) h y z = absurd (z refl)
last (suc (suc place)) h y z = omega arith

pub returns-in-0 : goal.returns-in-0
returns-in-0 c =
    let w = c.args.words.now in
    sym (ap (λ (place : ℕ). byte_at (identity (get_or w 25 0) place)) c.in-0.is)

pub returns-in-1 : goal.returns-in-1
returns-in-1 c =
    let w = c.args.words.now in
    sym (ap (λ (place : ℕ). byte_at (identity (get_or w 25 0) place)) c.in-1.is)

pub returns-in_default : goal.returns-in_default
returns-in_default c =
    let w = c.args.words.now in
    sym (ap (λ (place : ℕ). byte_at (identity (get_or w 25 0) place)) (last (get_or w 26 0) c.requires c.in_default.in_default-own.rest.0.1 c.in_default.in_default-own.rest.1))
