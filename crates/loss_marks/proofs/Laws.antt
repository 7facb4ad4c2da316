-- What a step asks of its event and of the device's answer: whether the one is a reset, and the other a refusal. Assumes nothing.
use mathlib.Core.Path.{◌≡◌, refl, sym, ap}
use Prim.Native.Nat.{ℕ, zero, suc}
use native.Mathlib.Omega.{arith}
use borrow.Author.Tests.{le-leb}
use lib.Dec.{eqb, leb}
use Rattle.device_rules.specs.Device.{State}
use Rattle.device_rules.specs.Refusals.{event_of}
use Rattle.loss_rules.specs.Marks.{is_reset}

-- STOP, and every other kind
pub stop_resets : (s : State) (kind arg : ℕ) → kind ≡ 1 → eqb s.bus 6 ≡ is_reset s (event_of kind arg)
stop_resets s kind arg e = ap (λ (kind : ℕ). is_reset s (event_of kind arg)) (sym e)

pub kind_resets : (s : State) (kind arg : ℕ) → (kind ≡ 1 → ⊥) → leb 5 kind ≡ is_reset s (event_of kind arg)
kind_resets s zero arg h = refl
kind_resets s (suc zero) arg h = absurd (h refl)
kind_resets s (suc (suc zero)) arg h = refl
kind_resets s (suc (suc (suc zero))) arg h = refl
kind_resets s (suc (suc (suc (suc zero)))) arg h = refl
kind_resets s (suc (suc (suc (suc (suc kind))))) arg h = le-leb 5 (suc (suc (suc (suc (suc kind))))) (omega arith)
