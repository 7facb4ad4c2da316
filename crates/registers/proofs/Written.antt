-- A register written, a register fetched, levels and a reset are, at every pin, what happens to that one pin: for every part whose map has the tests. Assumes nothing.
use mathlib.Core.Path.{◌≡◌, refl, sym}
use mathlib.Core.Bool.{Bool, true, false, cond}
use Prim.Native.Nat.{ℕ, ◌<◌}
use lib.ListN.{length}
use Rattle.bits.specs.Bits.{bit}
use Rattle.pins.specs.Pin.{reset}
use Rattle.pins.specs.OnePin.{OnePin, Registers, after, registers_after, pin_after}
use Rattle.pins.specs.OnePin.Happening.{LevelTo, InputFetched, Reset, Elsewhere}
use Rattle.pins.specs.AllPins.{map_pins}
use Rattle.pins.proofs.AllPins.{pin_map}
use Rattle.map.specs.Map.{Part, Kind, kind_at, defaults}
use Rattle.map.specs.Map.Kind.{Reserved, Input, Status, InputStatus, Configuration, Latch, Mask, PortKind, Edge, Clear, Output, Polarity, PinKind, Stored}
use Rattle.registers.specs.Registers.{Core, core, registers_at, one_pin, of_port, written_to, written_as, written, fetched_as, fetched, levelled}
use Rattle.registers.proofs.Pinwise.{Mapped, default_pin, registers_written}

pub same_pin_lem : {a b : OnePin} → a.registers ≡ b.registers → a.pin ≡ b.pin → a ≡ b
same_pin_lem registers pin = λ j. record { registers = registers j; pin = pin j }

-- a fetch changes no register
fetch_registers : (p : Part) (k : Kind) (n i : ℕ) (v : Registers) → registers_after (fetched_as p k n i) v ≡ v
unfolding fetched_as registers_after
fetch_registers p Input n i v = here (of_port p Input n i)
  where
    here : (b : Bool) → registers_after (cond b InputFetched Elsewhere) v ≡ v
    here true = refl
    here false = refl
fetch_registers p Reserved n i v = refl
fetch_registers p Status n i v = refl
fetch_registers p InputStatus n i v = refl
fetch_registers p Configuration n i v = refl
fetch_registers p Latch n i v = refl
fetch_registers p Mask n i v = refl
fetch_registers p PortKind n i v = refl
fetch_registers p Edge n i v = refl
fetch_registers p Clear n i v = refl
fetch_registers p Output n i v = refl
fetch_registers p Polarity n i v = refl
fetch_registers p PinKind n i v = refl
fetch_registers p Stored n i v = refl

module _ (p : Part) (s : Core) (i : ℕ) (hi : i < p.width) where
  pub write_pin : Mapped p → length s.file ≡ 128 → (n : ℕ) → n < 128 → (b : ℕ)
      → one_pin p (written p s n b) i ≡ after (written_to p (kind_at p n) n b i) (one_pin p s i)
  unfolding written_as
  write_pin ok full n hn b =
      same_pin_lem (registers_written p ok s.file n b i full hn hi (kind_at p n) refl)
      (pin_map p.width s.sets (λ i. pin_after (written_to p (kind_at p n) n b i) (registers_at p s.file i)) i hi)

  pub fetch_pin : (n : ℕ) → one_pin p (fetched p s n) i ≡ after (fetched_as p (kind_at p n) n i) (one_pin p s i)
  unfolding fetched
  fetch_pin n =
      same_pin_lem (sym (fetch_registers p (kind_at p n) n i (registers_at p s.file i)))
      (pin_map p.width s.sets (λ i. pin_after (fetched_as p (kind_at p n) n i) (registers_at p s.file i)) i hi)

  pub level_pin : (new : ℕ) → one_pin p (levelled p s new) i ≡ after (LevelTo (bit new i)) (one_pin p s i)
  unfolding levelled registers_after
  level_pin new = same_pin_lem refl (pin_map p.width s.sets (λ i. pin_after (LevelTo (bit new i)) (registers_at p s.file i)) i hi)

  pub reset_pin : Mapped p → one_pin p (core (defaults p) (map_pins p.width s.sets (λ i. reset))) i ≡ after Reset (one_pin p s i)
  unfolding registers_after pin_after
  reset_pin ok = same_pin_lem (default_pin p ok i hi) (pin_map p.width s.sets (λ i. reset) i hi)
