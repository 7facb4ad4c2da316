-- Every event on the device of a lawful part is, at every pin, what happens to that one pin. Assumes nothing.
use mathlib.Core.Path.{◌≡◌, refl, ap}
use mathlib.Core.Bool.{Bool, true, false, cond}
use Prim.Native.Nat.{ℕ, ◌+◌, ◌%◌, ◌<◌}
use lib.Dec.{eqb}
use lib.ListN.{length}
use Rattle.bits.proofs.Decide.{either_arm}
use Rattle.pins.specs.OnePin.{OnePin, after, registers_after, pin_after}
use Rattle.pins.specs.OnePin.Happening.{Reset, Elsewhere}
use Rattle.map.specs.Map.{Part, reserved}
use Rattle.registers.specs.Registers.{Core, one_pin}
use Rattle.registers.proofs.Written.{write_pin, fetch_pin, level_pin, reset_pin}
use Rattle.registers.proofs.Lawful.{Lawful}
use Rattle.device_rules.specs.Device.{State, Event, Bus, Outcome, bus_at, number, goes, address_byte, ours, addressed, byte_in, fetch_in, resetted, step}
use Rattle.device_rules.specs.Device.Bus.{Idle, Opened, Chosen, Filling, Sending, Call, Armed, Deaf, Asking, Named, Reopened, Telling}
use Rattle.device_rules.specs.Device.Event.{Start, Stop, HardwareReset, ByteSent, ByteFetched, Levels}
use Rattle.device_demands.specs.Happens.{sent_in, fetched_in, happens_to}

module _ (p : Part) (ok : Lawful p) (s : State) (i : ℕ) (hi : i < p.width) where
  abbrev P : Core → OnePin
  P r = one_pin p r i

  abbrev Same : Outcome → Type 0
  Same o = o.after.regs ≡ s.regs

  -- where registers and pins stay, nothing happens to the pin
  stays : {r : Core} → r ≡ s.regs → P r ≡ after Elsewhere (P s.regs)
  unfolding registers_after pin_after
  stays e = ap P e

  reset : P (resetted p s).regs ≡ after Reset (P s.regs)
  unfolding resetted
  reset = reset_pin p s.regs i hi ok.mapped

  address_stays : (b : ℕ) → Same (addressed s b)
  address_stays b =
      either_arm Same (eqb b (address_byte s)) refl (either_arm Same (eqb b (address_byte s + 1)) refl (either_arm Same (eqb b 0x00) refl (either_arm Same (eqb b 0xf8) refl refl)))

  byte_pin : length s.regs.file ≡ 128 → s.pointer < 128 → (k : Bus) (b : ℕ)
      → P (byte_in p k s b).after.regs ≡ after (sent_in p k s b i) (P s.regs)
  unfolding byte_in sent_in
  byte_pin full hn Idle b = stays refl
  byte_pin full hn Opened b = stays (address_stays b)
  byte_pin full hn Chosen b = stays (either_arm Same (reserved p (b % 128)) refl refl)
  byte_pin full hn Filling b = write_pin p s.regs i hi ok.mapped full s.pointer hn b
  byte_pin full hn Sending b = stays refl
  byte_pin full hn Call b = stays (either_arm Same (eqb b 0x06) refl refl)
  byte_pin full hn Armed b = stays refl
  byte_pin full hn Deaf b = stays refl
  byte_pin full hn Asking b = stays (either_arm Same (ours s b) refl refl)
  byte_pin full hn Named b = stays refl
  byte_pin full hn Reopened b = stays (either_arm Same (eqb b 0xf9) refl (address_stays b))
  byte_pin full hn Telling b = stays refl

  sent_back : (k : Bus) (acknowledged : Bool) → P (fetch_in p k s acknowledged).after.regs ≡ after (fetched_in p k s i) (P s.regs)
  unfolding fetch_in fetched_in
  sent_back Sending true = fetch_pin p s.regs i hi s.pointer
  sent_back Sending false = fetch_pin p s.regs i hi s.pointer
  sent_back Idle acknowledged = stays refl
  sent_back Opened acknowledged = stays refl
  sent_back Chosen acknowledged = stays refl
  sent_back Filling acknowledged = stays refl
  sent_back Call acknowledged = stays refl
  sent_back Armed acknowledged = stays refl
  sent_back Deaf acknowledged = stays refl
  sent_back Asking acknowledged = stays refl
  sent_back Named acknowledged = stays refl
  sent_back Reopened acknowledged = stays refl
  sent_back Telling true = stays refl
  sent_back Telling false = stays refl

  stop_pin : (armed : Bool) → P (cond armed (resetted p s) (goes s Idle)).regs ≡ after (cond armed Reset Elsewhere) (P s.regs)
  stop_pin true = reset
  stop_pin false = stays refl

  pub as_one_pin : length s.regs.file ≡ 128 → s.pointer < 128 → (e : Event)
      → P (step p s e).after.regs ≡ after (happens_to p s e i) (P s.regs)
  unfolding step happens_to
  as_one_pin full hn Start = stays refl
  as_one_pin full hn Stop = stop_pin (eqb s.bus (number Armed))
  as_one_pin full hn HardwareReset = reset
  as_one_pin full hn (ByteSent b) = byte_pin full hn (bus_at s.bus) b
  as_one_pin full hn (ByteFetched acknowledged) = sent_back (bus_at s.bus) acknowledged
  as_one_pin full hn (Levels new) = level_pin p s.regs i hi new
