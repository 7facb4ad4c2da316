-- What is true of a pin that the part does not have, as pins 34 to 39 of the sister, and of a bit that a register does not have.
use Rattle.std.specs.Prelude.{◌≡◌, false, ℕ, ◌<◌, ◌≤◌}
use Rattle.bits.specs.Bits.{bit}
use Rattle.map.specs.Map.{Part, reserved, room_at}
use Rattle.registers.specs.Registers.{driven_low, driven_high}
use Rattle.device_rules.specs.Device.{State, shown_in}

-- it is not driven, and in no set
pub record NoPin (p : Part) (s : State) (i : ℕ) : Type 0 where
  pub low : bit (driven_low p s.regs) i ≡ false
  pub high : bit (driven_high p s.regs) i ≡ false
  pub level : bit s.regs.sets.level i ≡ false
  pub reference : bit s.regs.sets.reference i ≡ false
  pub held : bit s.regs.sets.held i ≡ false
  pub edge : bit s.regs.sets.edge i ≡ false
  pub status : bit s.interrupt.status i ≡ false

-- no byte that a fetch shows has it: register n has its lowest `room_at` bits and no others
abbrev pub NoBit : Part → State → Type 0
NoBit p s = (n j : ℕ) → reserved p n ≡ false → room_at p n ≤ j → j < 8 → bit (shown_in p s n) j ≡ false

-- the pins from the part's width on, and the bits past those that exist
pub record Nowhere (p : Part) (s : State) : Type 0 where
  pub pins : (i : ℕ) → p.width ≤ i → NoPin p s i
  pub bits : NoBit p s
