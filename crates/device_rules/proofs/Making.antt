-- Making a device of a part: when it is refused, and what is made. Assumes nothing.
use mathlib.Core.Path.{◌≡◌, refl, ap, sym}
use mathlib.Core.Bool.{Bool, true, false, cond, ◌&&◌}
use mathlib.Core.List.{List}
use Prim.Native.Nat.{ℕ, ◌^◌, ◌<◌, ◌≤◌}
use native.Mathlib.Omega.{arith}
use lib.Dec.{ltb}
use borrow.Author.Tests.{lt-ltb, le-ltb, lt-leb, le-leb}
use Rattle.map.specs.Map.{Part, defaults}
use Rattle.registers.specs.Registers.{core}
use Rattle.registers.specs.Interrupt.{quiet}
use Rattle.registers.proofs.Writing.{same}
use Rattle.device_rules.specs.Device.{State, state, identity}
use Rattle.device_rules.specs.Refusals.{image_fits}
use Rattle.device_rules.proofs.Stepping.{same_state}
use Rattle.device_rules.specs.PowerOn.{power_on, making_refused, MadeOf}
use Rattle.device_rules.proofs.Images.{sound_of}

module _ (p : Part) (choice levels id : ℕ) where
  pub choice_over : 3 < choice → 2 ≡ making_refused p choice levels id
  choice_over h = sym (ap (λ (b : Bool). cond (b && (ltb levels (2 ^ p.width) && ltb id (2 ^ 24))) 0 2) (lt-leb choice 3 h))

  pub levels_over : choice < 4 → 2 ^ p.width ≤ levels → 2 ≡ making_refused p choice levels id
  levels_over fits h = simp (le-leb choice 3 (omega arith), le-ltb levels (2 ^ p.width) h)

  pub id_over : choice < 4 → levels < 2 ^ p.width → 2 ^ 24 ≤ id → 2 ≡ making_refused p choice levels id
  id_over fits h m = simp (le-leb choice 3 (omega arith), lt-ltb levels (2 ^ p.width) h, le-ltb id (2 ^ 24) m)

  pub none_over : choice < 4 → levels < 2 ^ p.width → id < 2 ^ 24 → 0 ≡ making_refused p choice levels id
  none_over fits h m = simp (le-leb choice 3 (omega arith), lt-ltb levels (2 ^ p.width) h, lt-ltb id (2 ^ 24) m)

  abbrev at_power_on : List ℕ → State
  at_power_on file = state (core file (record { level = levels; reference = levels; held = 0; edge = 0 })) quiet 0 0 0 choice (identity id 0)

  pub made_of : {n : ℕ} {file : List ℕ} → n ≡ making_refused p choice levels id → file ≡ defaults p → MadeOf p choice levels id n (at_power_on file)
  unfolding power_on
  made_of {n} {file} q e = record { number = q; made = same_state (same e refl) refl refl refl refl refl refl; none = λ z. fits_not z (image_fits p (at_power_on file)) refl }
    where
      fits_not : making_refused p choice levels id ≡ 2 → (b : Bool) → image_fits p (at_power_on file) ≡ b → image_fits p (at_power_on file) ≡ false
      fits_not z true i =
          let known = sound_of p (at_power_on file) i in
          absurd (omega (arith, z, none_over known.choice_small known.within.level_small known.id_small))
      fits_not z false i = i
