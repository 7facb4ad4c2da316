-- The registers that set direction, output level and output kind, and writes to them.
use Rattle.std.specs.Prelude.{Bool, cond, List, [], ◌∷◌, ◌++◌, ℕ, suc, ◌+◌, ◌-◌, ◌*◌, ◌%◌, ◌^◌, min, eqb, get_or, set, take}
use Rattle.bits.specs.Bits.{bit}
use Rattle.pins.specs.Pin.{Drive, drive}
use Rattle.map.specs.Map.{Part, Kind, first_of, entries, room_at}
use Rattle.map.specs.Map.Kind.{Output, Configuration, PortKind, PinKind}

-- What of a part the planner sees: its ports, the pins of each, the numbers of these registers (output, configuration,
-- the output port kind, pin output kind), and how many of the eight bits of the i-th of them exist.
pub record Shape : Type 0 where
  pub ports : ℕ
  pub width : ℕ → ℕ
  pub registers : List ℕ
  pub room : ℕ → ℕ

-- the numbers of a group of one register a port
abbrev pub numbers_of : Part → Kind → List ℕ
numbers_of p k = entries (λ n. n) (first_of p k) p.ports

-- 04 05 06 0C 0D 0E 5C 70 71 72 of the 24-pin part, 05 to 09 0F to 13 53 68 to 6C of its sister
abbrev pub registers_of : Part → List ℕ
registers_of p = numbers_of p Output ++ numbers_of p Configuration ++ first_of p PortKind ∷ numbers_of p PinKind

-- eight pins a port, and in the last what is left
abbrev pub shape_of : Part → Shape
shape_of p = record {
  ports = p.ports;
  width = λ k. min 8 (p.width - 8 * k);
  registers = registers_of p;
  room = λ i. room_at p (get_or (registers_of p) i 0);
}

-- What the registers hold, in the order of `registers`.
abbrev pub Settings : Type 0
Settings = List ℕ

-- What they say of one pin.
pub record PinBits : Type 0 where
  pub output : Bool
  pub configuration : Bool
  pub port_kind : Bool
  pub pin_kind : Bool

-- What they say of pin j of port k.
abbrev pub bits_of : Shape → Settings → (k j : ℕ) → PinBits
bits_of p s k j = record {
  output = bit (get_or s k 0) j;
  configuration = bit (get_or s (p.ports + k) 0) j;
  port_kind = bit (get_or s (2 * p.ports) 0) k;
  pin_kind = bit (get_or s (2 * p.ports + 1 + k) 0) j;
}

-- The pin's drive.
abbrev pub drive_in : PinBits → Drive
drive_in b = drive b.configuration b.output b.port_kind b.pin_kind

abbrev pub drive_of : Shape → Settings → (k j : ℕ) → Drive
drive_of p s k j = drive_in (bits_of p s k j)

-- ---- writes
pub record Write : Type 0 where
  pub register : ℕ
  pub value : ℕ

-- Where r stands in a list; its length, if nowhere.
abbrev pub place : List ℕ → ℕ → ℕ
place [] r = 0
place (x ∷ xs) r = cond (eqb x r) 0 (suc (place xs r))

-- Which of the registers a write is to.
abbrev pub place_of : Shape → Write → ℕ
place_of p w = place p.registers w.register

-- What is stored at place i when v is written: the bits that exist.
abbrev pub stored : Shape → (i v : ℕ) → ℕ
stored p i v = v % 2 ^ p.room i

-- The settings after one write. A write to another register leaves them.
abbrev pub put : Shape → Settings → Write → Settings
put p s w = set s (place_of p w) (stored p (place_of p w) w.value)

-- The settings after a list of writes.
abbrev pub run : Shape → Settings → List Write → Settings
run p s [] = s
run p s (w ∷ ws) = run p (put p s w) ws

-- The settings after the first i of them.
abbrev pub after : Shape → Settings → List Write → ℕ → Settings
after p s ws i = run p s (take i ws)

-- Write i of a list.
abbrev pub nth : List Write → ℕ → Write
nth ws i = get_or ws i (record { register = 0; value = 0 })
