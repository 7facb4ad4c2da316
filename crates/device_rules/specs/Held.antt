-- The state that the code's arguments hold, and what is known of one whose image is not refused.
use Rattle.std.specs.Prelude.{◌≡◌, false, true, List, ℕ, ◌^◌, ◌<◌}
use Rattle.pins.specs.AllPins.{Within}
use Rattle.map.specs.Map.{Part, reserved, file_fits}
use Rattle.registers.specs.Registers.{core}
use Rattle.registers.specs.Interrupt.{interrupt, worked_out}
use Rattle.device_rules.specs.Device.{State, state, identity}
use Rattle.device_rules.specs.declared.Rest.{Rest}

abbrev pub state_of : List ℕ → Rest → State
state_of file r = state (core file r.sets) (interrupt r.status r.line) r.pointer r.mode r.bus r.choice (identity r.number r.place)

pub record Sound (p : Part) (s : State) : Type 0 where
  pub pointer_small : s.pointer < 128
  pub pointer_known : reserved p s.pointer ≡ false
  pub mode_small : s.mode < 2
  pub bus_small : s.bus < 12
  pub choice_small : s.choice < 4
  pub id_small : s.id.number < 2 ^ 24
  pub place_small : s.id.place < 3
  pub within : Within p.width s.regs.sets
  pub file_fits_lem : file_fits p s.regs.file ≡ true
  pub right : s.interrupt ≡ worked_out p s.regs
