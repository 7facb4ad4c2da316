-- The device: its state, what each event does to it, and what it answers.
use Rattle.std.specs.Prelude.{Bool, cond, ◌||◌, [], ◌∷◌, ℕ, ◌+◌, ◌*◌, ◌/◌, ◌%◌, ◌^◌, eqb, get_or}
use Rattle.pins.specs.Pin.{reset}
use Rattle.pins.specs.AllPins.{map_pins}
use Rattle.map.specs.Map.{Part, kind_at, reserved, next_in, defaults}
use Rattle.registers.specs.Registers.{Core, core, written, fetched, levelled}
use Rattle.registers.specs.Interrupt.{Interrupt, rings_written, rings_fetched, rings_levelled, quiet, shown_kept}
use Rattle.device_rules.specs.declared.Answer.{Answer}
use Rattle.device_rules.specs.declared.Answer.TheVariants.{Nothing, Ack, Nak, Byte}

-- the bus states, numbered 0 to 11 in this order; the last four are those of the Device ID: asked for, our byte seen, START again, told
pub data Bus : Type 0 where
  Idle Opened Chosen Filling Sending Call Armed Deaf Asking Named Reopened Telling : Bus

abbrev pub number : Bus → ℕ
number Idle = 0
number Opened = 1
number Chosen = 2
number Filling = 3
number Sending = 4
number Call = 5
number Armed = 6
number Deaf = 7
number Asking = 8
number Named = 9
number Reopened = 10
number Telling = 11

abbrev pub bus_at : ℕ → Bus
bus_at n = get_or (Idle ∷ Opened ∷ Chosen ∷ Filling ∷ Sending ∷ Call ∷ Armed ∷ Deaf ∷ Asking ∷ Named ∷ Reopened ∷ Telling ∷ []) n Deaf

-- the Device ID: a number of 24 bits, given when the device is made, and the place of the byte of it that is told next, 0 the highest
pub record Identity : Type 0 where
  pub number : ℕ
  pub place : ℕ

abbrev pub identity : (number place : ℕ) → Identity
identity number place = record { number = number; place = place }

-- registers and pins; what is kept of the interrupt; the pointer, and the mode beside it: 0 it steps in its group, 1 over the whole map; the bus state's number; the address choice; the Device ID
pub record State : Type 0 where
  pub regs : Core
  pub interrupt : Interrupt
  pub pointer : ℕ
  pub mode : ℕ
  pub bus : ℕ
  pub choice : ℕ
  pub id : Identity

abbrev pub state : Core → Interrupt → (pointer mode bus choice : ℕ) → Identity → State
state regs interrupt pointer mode bus choice id = record { regs = regs; interrupt = interrupt; pointer = pointer; mode = mode; bus = bus; choice = choice; id = id }

-- an answer, and the state after
pub record Outcome : Type 0 where
  pub answer : Answer
  pub after : State

abbrev pub out : Answer → State → Outcome
out answer after = record { answer = answer; after = after }

abbrev pub goes : State → Bus → State
goes s b = state s.regs s.interrupt s.pointer s.mode (number b) s.choice s.id

-- Address choice 0, 1, 2, 3 gives seven-bit address 20h, 21h, 22h, 23h; the address byte is twice it, plus 1 to read.
abbrev pub address_byte : State → ℕ
address_byte s = 2 * (0x20 + s.choice)

-- our byte: the address byte with either lowest bit
abbrev pub ours : State → (b : ℕ) → Bool
ours s b = eqb b (address_byte s) || eqb b (address_byte s + 1)

-- ---- the Device ID
-- its bytes, the highest first
abbrev pub byte_at : Identity → ℕ
byte_at id = get_or (id.number / 2 ^ 16 % 256 ∷ id.number / 2 ^ 8 % 256 ∷ id.number % 256 ∷ []) id.place 0

-- after the third byte it starts at the first again
abbrev pub next_place : ℕ → ℕ
next_place place = get_or (1 ∷ 2 ∷ []) place 0

abbrev pub at_place : State → (place : ℕ) → State
at_place s place = state s.regs s.interrupt s.pointer s.mode s.bus s.choice (identity s.id.number place)

-- Reset, of whatever kind: defaults, pointer 00h, mode 0, Idle, no events held, each reference at the present level; no status bit, INT quiet; place 0.
-- Levels, address and the Device ID's number stay.
unfoldable pub resetted : Part → State → State
resetted p s = state (core (defaults p) (map_pins p.width s.regs.sets (λ i. reset))) quiet 0 0 (number Idle) s.choice (identity s.id.number 0)

-- the register at the pointer is written with b, or fetched: status set and line follow where that can change them
abbrev pub rings_at_write : Part → State → (b : ℕ) → Interrupt
rings_at_write p s b = rings_written p (kind_at p s.pointer) s.regs s.interrupt s.pointer b

abbrev pub rings_at_fetch : Part → State → Interrupt
rings_at_fetch p s = rings_fetched p (kind_at p s.pointer) s.regs s.interrupt s.pointer

-- the byte that a fetch of register n shows
abbrev pub shown_in : Part → State → (n : ℕ) → ℕ
shown_in p s n = shown_kept p (kind_at p n) s.regs s.interrupt n

-- an address byte: ours to write or to read, the general call, the question for a Device ID; no other is acknowledged
abbrev pub addressed : State → (b : ℕ) → Outcome
addressed s b =
    cond (eqb b (address_byte s)) (out Ack (goes s Chosen))
    (cond (eqb b (address_byte s + 1)) (out Ack (goes s Sending)) (cond (eqb b 0x00) (out Ack (goes s Call)) (cond (eqb b 0xf8) (out Ack (goes s Asking)) (out Nak (goes s Deaf)))))

-- A byte from the master, by the bus state.
unfoldable pub byte_in : Part → Bus → State → (b : ℕ) → Outcome
byte_in p Opened s b = addressed s b
-- a command whose low seven bits are not reserved: they become the pointer, and bit 7 the mode; else both are kept
byte_in p Chosen s b = cond (reserved p (b % 128)) (out Nak (goes s Deaf)) (out Ack (state s.regs s.interrupt (b % 128) (b / 128 % 2) (number Filling) s.choice s.id))
-- the register at the pointer is written, and the pointer steps
byte_in p Filling s b = out Ack (state (written p s.regs s.pointer b) (rings_at_write p s b) (next_in p s.mode s.pointer) s.mode (number Filling) s.choice s.id)
byte_in p Call s b = cond (eqb b 0x06) (out Ack (goes s Armed)) (out Nak (goes s Deaf))
byte_in p Armed s b = out Nak (goes s Deaf)
byte_in p Sending s b = out Nak (goes s Deaf)
byte_in p Idle s b = out Nak s
byte_in p Deaf s b = out Nak s
-- the Device ID: F8h was seen, and our byte is next
byte_in p Asking s b = cond (ours s b) (out Ack (goes s Named)) (out Nak (goes s Deaf))
-- it was seen too: no byte, but START again
byte_in p Named s b = out Nak (goes s Deaf)
-- after that F9h begins the telling, at the first byte; any other is an address byte
byte_in p Reopened s b = cond (eqb b 0xf9) (out Ack (goes (at_place s 0) Telling)) (addressed s b)
byte_in p Telling s b = out Nak (goes s Deaf)

-- A byte fetched by the master, by the bus state: in Sending the byte at the pointer; acknowledged, the pointer steps; not acknowledged, Deaf.
-- In Telling the byte of the Device ID at its place; acknowledged, the place steps; not acknowledged, Deaf. In another state FFh, and nothing changes.
unfoldable pub fetch_in : Part → Bus → State → (acknowledged : Bool) → Outcome
fetch_in p Sending s acknowledged =
    out (Byte (shown_in p s s.pointer))
    (cond acknowledged (state (fetched p s.regs s.pointer) (rings_at_fetch p s) (next_in p s.mode s.pointer) s.mode (number Sending) s.choice s.id)
    (state (fetched p s.regs s.pointer) (rings_at_fetch p s) s.pointer s.mode (number Deaf) s.choice s.id))
fetch_in p Telling s acknowledged = out (Byte (byte_at s.id)) (cond acknowledged (at_place s (next_place s.id.place)) (goes s Deaf))
fetch_in p Idle s acknowledged = out (Byte 0xff) s
fetch_in p Opened s acknowledged = out (Byte 0xff) s
fetch_in p Chosen s acknowledged = out (Byte 0xff) s
fetch_in p Filling s acknowledged = out (Byte 0xff) s
fetch_in p Call s acknowledged = out (Byte 0xff) s
fetch_in p Armed s acknowledged = out (Byte 0xff) s
fetch_in p Deaf s acknowledged = out (Byte 0xff) s
fetch_in p Asking s acknowledged = out (Byte 0xff) s
fetch_in p Named s acknowledged = out (Byte 0xff) s
fetch_in p Reopened s acknowledged = out (Byte 0xff) s

-- START goes to Opened from any state but two: in the question for a Device ID it is the repeated START, and a second one changes nothing
unfoldable pub start_in : Bus → Bus
start_in Named = Reopened
start_in Reopened = Reopened
start_in Idle = Opened
start_in Opened = Opened
start_in Chosen = Opened
start_in Filling = Opened
start_in Sending = Opened
start_in Call = Opened
start_in Armed = Opened
start_in Deaf = Opened
start_in Asking = Opened
start_in Telling = Opened

-- ---- events
pub data Event : Type 0 where
  Start Stop HardwareReset : Event
  ByteSent : (b : ℕ) → Event
  ByteFetched : (acknowledged : Bool) → Event
  Levels : (new : ℕ) → Event

unfoldable pub step : Part → State → Event → Outcome
-- START, by the bus state; pointer and mode stay
step p s Start = out Nothing (goes s (start_in (bus_at s.bus)))
-- STOP goes to Idle; from Armed the device resets first
step p s Stop = out Nothing (cond (eqb s.bus (number Armed)) (resetted p s) (goes s Idle))
step p s (ByteSent b) = byte_in p (bus_at s.bus) s b
step p s (ByteFetched acknowledged) = fetch_in p (bus_at s.bus) s acknowledged
step p s (Levels new) = out Nothing (state (levelled p s.regs new) (rings_levelled p s.regs s.interrupt new) s.pointer s.mode s.bus s.choice s.id)
step p s HardwareReset = out Nothing (resetted p s)
