-- What the state keeps of the interrupt: the status set and the line, and what each operation writes to them.
-- That they are then what the rules work out is a theorem (`kept_right`).
use Rattle.std.specs.Prelude.{Bool, true, false, cond, ℕ, ◌-◌, eqb}
use Rattle.bits.specs.Bits.{bit, tabulate}
use Rattle.pins.specs.AllPins.{asserted}
use Rattle.pins.specs.Kept.{status_after}
use Rattle.pins.specs.OnePin.{Happening, status_of}
use Rattle.pins.specs.OnePin.Happening.{LevelTo}
use Rattle.ports.specs.Ports.{byte_of}
use Rattle.map.specs.Map.{Part, Kind, first_of, code}
use Rattle.map.specs.Map.Kind.{Reserved, Input, Status, InputStatus, Configuration, Latch, Mask, PortKind, Edge, Clear, Output, Polarity, PinKind, Stored}
use Rattle.registers.specs.Registers.{Core, one_pin, shown, written_to, fetched_as}

-- every pin's status bit, and INT's level: 0 asserted, 1 quiet
pub record Interrupt : Type 0 where
  pub status : ℕ
  pub line : ℕ

abbrev pub interrupt : (status line : ℕ) → Interrupt
interrupt status line = record { status = status; line = line }

-- INT is asserted (low) exactly if some status bit is 1
abbrev pub int_level : Part → (status : ℕ) → ℕ
int_level p status = cond (asserted p.width (λ i. bit status i)) 0 1

-- a status set with its line
abbrev pub interrupt_of : Part → (status : ℕ) → Interrupt
interrupt_of p status = interrupt status (int_level p status)

-- as the rules work them out of registers and pins
unfoldable pub worked_out : Part → Core → Interrupt
worked_out p s = interrupt_of p (tabulate p.width (λ i. status_of (one_pin p s i)))

-- ---- what is written
-- something happens to each pin: its status bit by its own sentence, and the line with them
unfoldable pub after_each : Part → Core → Interrupt → (happens : ℕ → Happening) → Interrupt
after_each p s kept happens = interrupt_of p (tabulate p.width (λ i. status_after (happens i) (one_pin p s i) (bit kept.status i)))

-- the registers whose write can change a status bit
abbrev pub rings : Kind → Bool
rings Configuration = true
rings Latch = true
rings Mask = true
rings Edge = true
rings Clear = true
rings Reserved = false
rings Input = false
rings Status = false
rings InputStatus = false
rings PortKind = false
rings Output = false
rings Polarity = false
rings PinKind = false
rings Stored = false

-- v is written to register n: those registers write status set and line, no other touches them
unfoldable pub rings_written : Part → Kind → Core → Interrupt → (n v : ℕ) → Interrupt
rings_written p k s kept n v = cond (rings k) (after_each p s kept (written_to p k n v)) kept

-- register n is fetched: only an input port register writes them
unfoldable pub rings_fetched : Part → Kind → Core → Interrupt → (n : ℕ) → Interrupt
rings_fetched p k s kept n = cond (eqb (code k) (code Input)) (after_each p s kept (fetched_as p k n)) kept

-- the levels become those of new
abbrev pub rings_levelled : Part → Core → Interrupt → (new : ℕ) → Interrupt
rings_levelled p s kept new = after_each p s kept (λ i. LevelTo (bit new i))

-- any reset: no status bit, INT quiet
abbrev pub quiet : Interrupt
quiet = interrupt 0 1

-- ---- what is shown
-- the byte that a fetch of register n shows: interrupt status is what is kept
unfoldable pub shown_kept : Part → Kind → Core → Interrupt → (n : ℕ) → ℕ
shown_kept p k s kept n = cond (eqb (code k) (code Status)) (byte_of (n - first_of p Status) (bit kept.status)) (shown p s n)
