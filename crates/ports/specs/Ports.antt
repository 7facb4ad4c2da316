-- Bytes and pins. Pin 8k + j is bit j of port k.
use Rattle.std.specs.Prelude.{Bool, List, ℕ, ◌+◌, ◌*◌, ◌/◌, ◌%◌, eqb, get_or}
use Rattle.bits.specs.Bits.{bit, tabulate}

-- pin i is one of port k's
abbrev pub in_port : (k i : ℕ) → Bool
in_port k i = eqb (i / 8) k

-- pin i's bit in the byte of its port
abbrev pub port_bit : (byte i : ℕ) → Bool
port_bit byte i = bit byte (i % 8)

-- pin i's bit in the bytes of the ports, port 0 first
abbrev pub bytes_bit : (bytes : List ℕ) → ℕ → Bool
bytes_bit bytes i = port_bit (get_or bytes (i / 8) 0) i

-- the byte of port k
abbrev pub byte_of : (k : ℕ) → (ℕ → Bool) → ℕ
byte_of k f = tabulate 8 (λ j. f (8 * k + j))

-- An edge register holds four pins, the lowest in bits 1 and 0: register k holds the pins 4k to 4k + 3.
abbrev pub in_edge : (k i : ℕ) → Bool
in_edge k i = eqb (i / 4) k

-- the low bit of pin i's field, which asks for rising edges, and the high bit, which asks for falling ones
abbrev pub rising_bit : (byte i : ℕ) → Bool
rising_bit byte i = bit byte (2 * (i % 4))

abbrev pub falling_bit : (byte i : ℕ) → Bool
falling_bit byte i = bit byte (2 * (i % 4) + 1)

-- the four low bits of an edge register's fields, put together
abbrev pub evens_of : ℕ → ℕ
evens_of byte = tabulate 4 (λ j. bit byte (2 * j))
