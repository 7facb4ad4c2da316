-- Making a device.
use Rattle.std.specs.Prelude.{◌≡◌, false, cond, ◌&&◌, ℕ, ◌^◌, leb, ltb}
use Rattle.map.specs.Map.{Part, defaults}
use Rattle.registers.specs.Registers.{core}
use Rattle.registers.specs.Interrupt.{quiet}
use Rattle.device_rules.specs.Device.{State, state, identity, number}
use Rattle.device_rules.specs.Refusals.{image_fits}
use Rattle.device_rules.specs.Device.Bus.{Idle}

-- Power-on: defaults, pointer 00h, mode 0, Idle, no events held, each reference at the present level; no status bit, INT quiet; the Device ID's number, place 0.
unfoldable pub power_on : Part → (choice levels id : ℕ) → State
power_on p choice levels id =
    state (core (defaults p) (record { level = levels; reference = levels; held = 0; edge = 0 })) quiet 0 0 (number Idle) choice (identity id 0)

-- refusal 2: an address choice over 3, levels of other pins than the part's, or a Device ID of more than 24 bits; 0 is none
abbrev pub making_refused : Part → (choice levels id : ℕ) → ℕ
making_refused p choice levels id = cond (leb choice 3 && (ltb levels (2 ^ p.width) && ltb id (2 ^ 24))) 0 2

-- what making a device gives: the refusal's number, and the state at power-on or, refused, one that every step refuses
pub record MadeOf (p : Part) (choice levels id : ℕ) (refusal : ℕ) (s : State) : Type 0 where
  pub number : refusal ≡ making_refused p choice levels id
  pub made : s ≡ power_on p choice levels id
  pub none : making_refused p choice levels id ≡ 2 → image_fits p s ≡ false
