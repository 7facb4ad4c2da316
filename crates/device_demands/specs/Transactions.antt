-- Whole transactions on the bus.
use Rattle.std.specs.Prelude.{Bool, true, false, cond, ◌&&◌, ◌||◌, List, [], ◌∷◌, ℕ, zero, suc, ◌+◌, ◌*◌, ◌/◌, ◌%◌, ◌<◌, eqb}
use Rattle.bits.specs.Bits.{val}
use Rattle.map.specs.Map.{Part, next_in}
use Rattle.registers.specs.Registers.{Core, written, fetched, shown}
use Rattle.registers.specs.Interrupt.{worked_out}
use Rattle.device_rules.specs.Device.{Identity, State, Event, number, identity, state, ours, byte_at, next_place}
use Rattle.device_rules.specs.Device.Bus.{Opened, Asking, Named, Reopened}
use Rattle.device_rules.specs.Device.Event.{Start, Stop, HardwareReset, ByteSent, ByteFetched, Levels}
use Rattle.device_rules.specs.declared.Answer.{Answer}
use Rattle.device_rules.specs.declared.Answer.TheVariants.{Ack, Byte}
use Rattle.device_demands.specs.Run.{Asked}

-- a state whose status set and line are what the rules work out
abbrev pub rightly : Part → Core → (pointer mode bus choice : ℕ) → Identity → State
rightly p r pointer mode bus choice id = state r (worked_out p r) pointer mode bus choice id

abbrev pub ask : (kind arg : ℕ) → Asked
ask kind arg = record { kind = kind; arg = arg }

abbrev pub START : Asked
START = ask 0 0

abbrev pub STOP : Asked
STOP = ask 1 0

abbrev pub sent : ℕ → Asked
sent b = ask 2 b

-- the address byte of an address choice, to write
abbrev pub to_write : (choice : ℕ) → Asked
to_write choice = sent (2 * (0x20 + choice))

-- and to read
abbrev pub to_read : (choice : ℕ) → Asked
to_read choice = sent (2 * (0x20 + choice) + 1)

abbrev pub fetch : (acknowledged : Bool) → Asked
fetch acknowledged = ask 3 (val acknowledged)

-- ---- writes
-- bytes one after the other, and STOP
abbrev pub sent_all : List ℕ → List Asked
sent_all [] = STOP ∷ []
sent_all (v ∷ vs) = sent v ∷ sent_all vs

-- a command's low seven bits are a register's number, bit 7 is the mode
abbrev pub number_in : (command : ℕ) → ℕ
number_in command = command % 128

abbrev pub mode_in : (command : ℕ) → ℕ
mode_in command = command / 128 % 2

-- a command and then data bytes
abbrev pub write_all_over : (choice command : ℕ) → List ℕ → List Asked
write_all_over choice command vs = START ∷ to_write choice ∷ sent command ∷ sent_all vs

-- register n is written with v; bit 7 is clear
abbrev pub write_over : (choice n v : ℕ) → List Asked
write_over choice n v = write_all_over choice n (v ∷ [])

-- each is a byte
abbrev pub Bytes : List ℕ → Type 0
Bytes [] = Unit {0}
Bytes (v ∷ vs) = (v < 256) × Bytes vs

-- the registers written one after the other, from number n on at successive numbers of its group or, in mode 1, of the whole map: read-only registers
-- among them stay, and clear registers settle the pins of their bits
unfoldable pub written_from : Part → (mode : ℕ) → Core → (n : ℕ) → List ℕ → Core
written_from p mode r n [] = r
written_from p mode r n (v ∷ vs) = written_from p mode (written p r n v) (next_in p mode n) vs

-- an acknowledge for each
abbrev pub acks : List ℕ → (then : List Answer) → List Answer
acks [] then = then
acks (v ∷ vs) then = Ack ∷ acks vs then

-- ---- reads
-- so many bytes fetched and acknowledged, one more that is not, and STOP
abbrev pub fetched_all : (more : ℕ) → List Asked
fetched_all zero = fetch false ∷ STOP ∷ []
fetched_all (suc more) = fetch true ∷ fetched_all more

-- from where the pointer is
abbrev pub read_all_on : (choice more : ℕ) → List Asked
read_all_on choice more = START ∷ to_read choice ∷ fetched_all more

-- a command first
abbrev pub read_all_over : (choice command more : ℕ) → List Asked
read_all_over choice command more = START ∷ to_write choice ∷ sent command ∷ read_all_on choice more

-- the bytes that are shown, from number n on at successive numbers of its group or of the whole map: each fetch does to the pins what it does before the next
-- byte is formed, so that every input port that is passed is settled
unfoldable pub shown_from : Part → (mode : ℕ) → Core → (n more : ℕ) → (then : List Answer) → List Answer
shown_from p mode r n zero then = Byte (shown p r n) ∷ then
shown_from p mode r n (suc more) then = Byte (shown p r n) ∷ shown_from p mode (fetched p r n) (next_in p mode n) more then

-- and what is left of registers and pins
unfoldable pub fetched_from : Part → (mode : ℕ) → Core → (n more : ℕ) → Core
fetched_from p mode r n zero = fetched p r n
fetched_from p mode r n (suc more) = fetched_from p mode (fetched p r n) (next_in p mode n) more

-- ---- the Device ID
-- the question, our byte with either lowest bit, START again, the question to tell, and fetches
abbrev pub identify : (choice : ℕ) (low : Bool) (more : ℕ) → List Asked
identify choice low more = START ∷ sent 0xf8 ∷ sent (2 * (0x20 + choice) + val low) ∷ START ∷ sent 0xf9 ∷ fetched_all more

-- so many places on
abbrev pub places_on : Identity → (more : ℕ) → Identity
places_on id zero = id
places_on id (suc more) = places_on (identity id.number (next_place id.place)) more

-- the bytes that are told, the highest first, round and round
abbrev pub told_from : Identity → (more : ℕ) → (then : List Answer) → List Answer
told_from id zero then = Byte (byte_at id) ∷ then
told_from id (suc more) then = Byte (byte_at id) ∷ told_from (identity id.number (next_place id.place)) more then

-- what leads to each state of the question from another one: F8h where an address byte is taken, our byte after it, START after that
abbrev pub asks : State → Event → Bool
asks s (ByteSent b) = eqb b 0xf8 && (eqb s.bus (number Opened) || eqb s.bus (number Reopened))
asks s Start = false
asks s Stop = false
asks s HardwareReset = false
asks s (ByteFetched acknowledged) = false
asks s (Levels new) = false

abbrev pub names : State → Event → Bool
names s (ByteSent b) = eqb s.bus (number Asking) && ours s b
names s Start = false
names s Stop = false
names s HardwareReset = false
names s (ByteFetched acknowledged) = false
names s (Levels new) = false

abbrev pub reopens : State → Event → Bool
reopens s Start = eqb s.bus (number Named)
reopens s Stop = false
reopens s HardwareReset = false
reopens s (ByteSent b) = false
reopens s (ByteFetched acknowledged) = false
reopens s (Levels new) = false

-- the event leads rightly to the state of that number: every other number may be led to by any
abbrev pub led_to : State → Event → (bus : ℕ) → Bool
led_to s e bus =
    cond (eqb bus (number Asking)) (asks s e) (cond (eqb bus (number Named)) (names s e) (cond (eqb bus (number Reopened)) (reopens s e) true))

-- ---- one byte, as the bench points have it
-- the command n is set, and a byte is fetched
abbrev pub read_over : (choice n : ℕ) (acknowledged : Bool) → List Asked
read_over choice n acknowledged = START ∷ to_write choice ∷ sent n ∷ START ∷ to_read choice ∷ fetch acknowledged ∷ []

-- a byte is fetched from where the pointer is
abbrev pub read_on : (choice : ℕ) (acknowledged : Bool) → List Asked
read_on choice acknowledged = START ∷ to_read choice ∷ fetch acknowledged ∷ []
