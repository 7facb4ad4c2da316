-- The register file and the pins: what the file says of a pin, what a written register does, what a fetched one shows.
use Rattle.std.specs.Prelude.{Bool, cond, List, ℕ, ◌+◌, ◌-◌, ◌/◌, ◌%◌, ◌^◌, get_or, set}
use Rattle.bits.specs.Bits.{bit, tabulate}
use Rattle.pins.specs.Pin.{source, is_low, is_high}
use Rattle.pins.specs.AllPins.{pin_at, map_pins, asserted}
use Rattle.pins.specs.OnePin.{Registers, OnePin, Happening, registers, pin_after, drive_of, input_of, status_of}
use Rattle.pins.specs.OnePin.Happening.{LevelTo, InputFetched, ClearWritten, MaskWritten, EdgeWritten, LatchWritten, ConfigurationWritten, OutputWritten, PolarityWritten, PortKindWritten, PinKindWritten, StoredWritten, Elsewhere}
use Rattle.pins.specs.declared.Sets.{Sets}
use Rattle.ports.specs.Ports.{in_port, port_bit, byte_of, in_edge, rising_bit, falling_bit}
use Rattle.map.specs.Map.{Part, Kind, first_of, kind_at, stored, kept_in}
use Rattle.map.specs.Map.Kind.{Reserved, Input, Status, InputStatus, Configuration, Latch, Mask, PortKind, Edge, Clear, Output, Polarity, PinKind, Stored}

-- the register file, one byte for each command number, and what is stored of the pins
pub record Core : Type 0 where
  pub file : List ℕ
  pub sets : Sets

abbrev pub core : List ℕ → Sets → Core
core file sets = record { file = file; sets = sets }

-- ---- what the file says of pin i
-- its bit in a group of one byte a port
abbrev pub group_bit : Part → List ℕ → Kind → ℕ → Bool
group_bit p file k i = port_bit (get_or file (first_of p k + i / 8) 0) i

-- the edge register that holds it
abbrev pub edge_byte : Part → List ℕ → ℕ → ℕ
edge_byte p file i = get_or file (first_of p Edge + i / 4) 0

abbrev pub registers_at : Part → List ℕ → ℕ → Registers
registers_at p file i =
    registers
    (source (group_bit p file Configuration i) (group_bit p file Mask i) (group_bit p file Latch i) (rising_bit (edge_byte p file i) i) (falling_bit (edge_byte p file i) i))
    (group_bit p file Output i)
    (group_bit p file Polarity i)
    -- bit k of the output port kind is port k's
    (bit (get_or file (first_of p PortKind) 0) (i / 8))
    (group_bit p file PinKind i)

-- pin i as a machine of its own
abbrev pub one_pin : Part → Core → ℕ → OnePin
one_pin p s i = record { registers = registers_at p s.file i; pin = pin_at s.sets i }

-- ---- what can be seen
unfoldable pub driven_low : Part → Core → ℕ
driven_low p s = tabulate p.width (λ i. is_low (drive_of (one_pin p s i)))

unfoldable pub driven_high : Part → Core → ℕ
driven_high p s = tabulate p.width (λ i. is_high (drive_of (one_pin p s i)))

unfoldable pub int_asserted : Part → Core → Bool
int_asserted p s = asserted p.width (λ i. status_of (one_pin p s i))

-- The byte that a fetch of register n shows. Input port and input status: the input port bits of its eight pins.
-- Interrupt status: their status bits. Interrupt clear: 00. Any other: what is stored.
unfoldable pub shown_as : Part → Kind → Core → (n : ℕ) → ℕ
shown_as p Input s n = byte_of (n - first_of p Input) (λ i. input_of (one_pin p s i))
shown_as p InputStatus s n = byte_of (n - first_of p InputStatus) (λ i. input_of (one_pin p s i))
shown_as p Status s n = byte_of (n - first_of p Status) (λ i. status_of (one_pin p s i))
shown_as p Clear s n = 0
shown_as p Reserved s n = 0
shown_as p Configuration s n = get_or s.file n 0
shown_as p Latch s n = get_or s.file n 0
shown_as p Mask s n = get_or s.file n 0
shown_as p PortKind s n = get_or s.file n 0
shown_as p Edge s n = get_or s.file n 0
shown_as p Output s n = get_or s.file n 0
shown_as p Polarity s n = get_or s.file n 0
shown_as p PinKind s n = get_or s.file n 0
shown_as p Stored s n = get_or s.file n 0

abbrev pub shown : Part → Core → (n : ℕ) → ℕ
shown p s n = shown_as p (kind_at p n) s n

-- ---- what happens to pin i when v is written to register n, by the register's kind
-- a register of one byte a port concerns the eight pins of its port, an edge register its four pins
abbrev pub of_port : Part → Kind → (n i : ℕ) → Bool
of_port p k n i = in_port (n - first_of p k) i

unfoldable pub written_to : Part → Kind → (n v i : ℕ) → Happening
written_to p Configuration n v i = cond (of_port p Configuration n i) (ConfigurationWritten (port_bit v i)) Elsewhere
written_to p Latch n v i = cond (of_port p Latch n i) (LatchWritten (port_bit v i)) Elsewhere
written_to p Mask n v i = cond (of_port p Mask n i) (MaskWritten (port_bit v i)) Elsewhere
written_to p Clear n v i = cond (of_port p Clear n i) (ClearWritten (port_bit v i)) Elsewhere
written_to p Edge n v i = cond (in_edge (n - first_of p Edge) i) (EdgeWritten (rising_bit v i) (falling_bit v i)) Elsewhere
written_to p Output n v i = cond (of_port p Output n i) (OutputWritten (port_bit v i)) Elsewhere
written_to p Polarity n v i = cond (of_port p Polarity n i) (PolarityWritten (port_bit v i)) Elsewhere
written_to p PinKind n v i = cond (of_port p PinKind n i) (PinKindWritten (port_bit v i)) Elsewhere
written_to p PortKind n v i = PortKindWritten (bit v (i / 8))
written_to p Stored n v i = StoredWritten
-- read-only registers: acknowledged, and nothing changes
written_to p Input n v i = Elsewhere
written_to p Status n v i = Elsewhere
written_to p InputStatus n v i = Elsewhere
written_to p Reserved n v i = Elsewhere

-- what is stored of v: of the output port kind only the ports' bits
abbrev pub kept_as : Part → Kind → ℕ → ℕ
kept_as p PortKind v = v % 2 ^ p.ports
kept_as p Reserved v = v
kept_as p Input v = v
kept_as p Status v = v
kept_as p InputStatus v = v
kept_as p Configuration v = v
kept_as p Latch v = v
kept_as p Mask v = v
kept_as p Edge v = v
kept_as p Clear v = v
kept_as p Output v = v
kept_as p Polarity v = v
kept_as p PinKind v = v
kept_as p Stored v = v

unfoldable pub written_as : Part → Kind → Core → (n v : ℕ) → Core
written_as p k s n v =
    core (cond (stored k) (set s.file n (kept_in p n (kept_as p k v))) s.file)
    (map_pins p.width s.sets (λ i. pin_after (written_to p k n v i) (registers_at p s.file i)))

-- v is written to register n
abbrev pub written : Part → Core → (n v : ℕ) → Core
written p s n v = written_as p (kind_at p n) s n v

-- ---- what happens to pin i when register n is fetched: only an input port register settles its eight pins
unfoldable pub fetched_as : Part → Kind → (n i : ℕ) → Happening
fetched_as p Input n i = cond (of_port p Input n i) InputFetched Elsewhere
fetched_as p Reserved n i = Elsewhere
fetched_as p Status n i = Elsewhere
fetched_as p InputStatus n i = Elsewhere
fetched_as p Configuration n i = Elsewhere
fetched_as p Latch n i = Elsewhere
fetched_as p Mask n i = Elsewhere
fetched_as p PortKind n i = Elsewhere
fetched_as p Edge n i = Elsewhere
fetched_as p Clear n i = Elsewhere
fetched_as p Output n i = Elsewhere
fetched_as p Polarity n i = Elsewhere
fetched_as p PinKind n i = Elsewhere
fetched_as p Stored n i = Elsewhere

-- register n is fetched
unfoldable pub fetched : Part → Core → (n : ℕ) → Core
fetched p s n = core s.file (map_pins p.width s.sets (λ i. pin_after (fetched_as p (kind_at p n) n i) (registers_at p s.file i)))

-- the levels become those of new
unfoldable pub levelled : Part → Core → (new : ℕ) → Core
levelled p s new = core s.file (map_pins p.width s.sets (λ i. pin_after (LevelTo (bit new i)) (registers_at p s.file i)))
