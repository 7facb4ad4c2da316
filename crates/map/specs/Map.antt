-- The register map: one list of groups a part, from which all else is computed.
use Rattle.std.specs.Prelude.{Bool, true, false, cond, not, ◌&&◌, ◌||◌, List, [], ◌∷◌, ℕ, zero, suc, ◌+◌, ◌-◌, ◌*◌, ◌%◌, ◌^◌, min, leb, ltb, eqb, get_or}

-- What a group is for. `Stored` groups (drive strength, pulls, debounce) are stored and have no effect.
pub data Kind : Type 0 where
  Reserved Input Status InputStatus Configuration Latch Mask PortKind Edge Clear Output Polarity PinKind Stored : Kind

-- the code's number for it: 0 to 3 are not written, 4 to 9 have a rule of their own when written, from 10 on they are only kept
abbrev pub code : Kind → ℕ
code Reserved = 0
code Input = 1
code Status = 2
code InputStatus = 3
code Configuration = 4
code Latch = 5
code Mask = 6
code PortKind = 7
code Edge = 8
code Clear = 9
code Output = 10
code Polarity = 11
code PinKind = 12
code Stored = 13

-- the numbers first to last, what each holds after a reset, 0 where nothing is stored, and how many bits they have together: one a pin, two a pin, one a port
pub record Group : Type 0 where
  pub first : ℕ
  pub last : ℕ
  pub kind : Kind
  pub default : ℕ
  pub bits : ℕ

abbrev pub group : ℕ → ℕ → Kind → ℕ → ℕ → Group
group first last kind default bits = record { first = first; last = last; kind = kind; default = default; bits = bits }

-- a part: its groups, its number of ports, its number of pins
pub record Part : Type 0 where
  pub groups : List Group
  pub ports : ℕ
  pub width : ℕ

-- the 24-pin part
abbrev pub part24 : Part
part24 = record {
  groups =
      -- input port, read only
      group 0x00 0x02 Input 0x00 24
      ∷ group 0x04 0x06 Output 0xff 24
      ∷ group 0x08 0x0a Polarity 0x00 24
      -- 1 = input
      ∷ group 0x0c 0x0e Configuration 0xff 24
      -- drive strength
      ∷ group 0x40 0x45 Stored 0xff 48
      -- input latch
      ∷ group 0x48 0x4a Latch 0x00 24
      -- pull enable, pull select
      ∷ group 0x4c 0x4e Stored 0x00 24
      ∷ group 0x50 0x52 Stored 0xff 24
      -- interrupt mask, 1 = masked
      ∷ group 0x54 0x56 Mask 0xff 24
      -- interrupt status, read only
      ∷ group 0x58 0x5a Status 0x00 24
      -- output port kind, bit k = port k open-drain
      ∷ group 0x5c 0x5c PortKind 0x00 3
      -- interrupt edge, two bits a pin
      ∷ group 0x60 0x65 Edge 0x00 48
      -- interrupt clear, write only
      ∷ group 0x68 0x6a Clear 0x00 24
      -- input status, read only
      ∷ group 0x6c 0x6e InputStatus 0x00 24
      -- pin output kind
      ∷ group 0x70 0x72 PinKind 0x00 24
      -- debounce enable, debounce count
      ∷ group 0x74 0x75 Stored 0x00 16
      ∷ group 0x76 0x76 Stored 0x00 8
      ∷ [];
  ports = 3;
  width = 24;
}

-- the 34-pin sister: two pins in port 4
abbrev pub part34 : Part
part34 = record {
  groups =
      group 0x00 0x04 Input 0x00 34
      ∷ group 0x05 0x09 Output 0xff 34
      ∷ group 0x0a 0x0e Polarity 0x00 34
      ∷ group 0x0f 0x13 Configuration 0xff 34
      ∷ group 0x30 0x38 Stored 0xff 68
      ∷ group 0x3a 0x3e Latch 0x00 34
      ∷ group 0x3f 0x43 Stored 0x00 34
      ∷ group 0x44 0x48 Stored 0xff 34
      ∷ group 0x49 0x4d Mask 0xff 34
      ∷ group 0x4e 0x52 Status 0x00 34
      ∷ group 0x53 0x53 PortKind 0x00 5
      ∷ group 0x54 0x5c Edge 0x00 68
      ∷ group 0x5e 0x62 Clear 0x00 34
      ∷ group 0x63 0x67 InputStatus 0x00 34
      ∷ group 0x68 0x6c PinKind 0x00 34
      -- debounce, one group of three
      ∷ group 0x6d 0x6f Stored 0x00 24
      ∷ [];
  ports = 5;
  width = 34;
}

-- the part of that number: 0 is the 24-pin part, 1 its sister
abbrev pub part_of : ℕ → Part
part_of zero = part24
part_of (suc n) = part34

-- the group of the number n; all numbers outside the groups are reserved, and each stands alone
abbrev pub group_in : List Group → ℕ → Group
group_in [] n = group n n Reserved 0x00 8
group_in (g ∷ gs) n = cond (leb g.first n && leb n g.last) g (group_in gs n)

-- where the group of a kind begins
abbrev pub first_in : List Group → Kind → ℕ
first_in [] k = 0
first_in (g ∷ gs) k = cond (eqb (code g.kind) (code k)) g.first (first_in gs k)

abbrev pub first_of : Part → Kind → ℕ
first_of p k = first_in p.groups k

unfoldable pub kind_at : Part → ℕ → Kind
kind_at p n = (group_in p.groups n).kind

-- no register has a number above 7Fh: such a number counts as reserved
unfoldable pub reserved : Part → ℕ → Bool
reserved p n = not (ltb n 128) || eqb (code (kind_at p n)) (code Reserved)

-- the next number of the group, from the last back to the first; a group of one stays
unfoldable pub next : Part → ℕ → ℕ
next p n = cond (eqb n (group_in p.groups n).last) (group_in p.groups n).first (n + 1)

-- the first number from n on, of m of them, that is not reserved; 00h where there is none
abbrev pub first_known : Part → (n m : ℕ) → ℕ
first_known p n zero = 0x00
first_known p n (suc m) = cond (reserved p n) (first_known p (n + 1) m) n

-- over the whole map: the next number that is not reserved, from the last of a group and from a group of one too; the highest goes to 00h
unfoldable pub onward : Part → ℕ → ℕ
onward p n = first_known p (n + 1) (127 - n)

-- the step from number to number, by the mode: 0 in its group, 1 over the whole map
unfoldable pub next_in : Part → (mode n : ℕ) → ℕ
next_in p mode n = cond (eqb mode 1) (onward p n) (next p n)

-- how many of the m numbers from n on are not reserved
abbrev pub known_from : Part → (n m : ℕ) → ℕ
known_from p n zero = 0
known_from p n (suc m) = cond (reserved p n) 0 1 + known_from p (n + 1) m

-- how many registers the part has: 52, and 82 of the sister
abbrev pub register_count : Part → ℕ
register_count p = known_from p 0 128

-- the number after so many steps
unfoldable pub walked : Part → (mode n count : ℕ) → ℕ
walked p mode n zero = n
walked p mode n (suc count) = walked p mode (next_in p mode n) count

-- the group step as a row has it: the next number, 0 for a reserved one
abbrev pub successor : Part → ℕ → ℕ
successor p n = cond (reserved p n) 0 (next p n)

-- whether the entries of such a group have a stored value
abbrev pub stored : Kind → Bool
stored Reserved = false
stored Input = false
stored Status = false
stored InputStatus = false
stored Configuration = true
stored Latch = true
stored Mask = true
stored PortKind = true
stored Edge = true
stored Clear = false
stored Output = true
stored Polarity = true
stored PinKind = true
stored Stored = true

-- f of each of the n numbers from a on
abbrev pub entries : (ℕ → ℕ) → (a n : ℕ) → List ℕ
entries f a zero = []
entries f a (suc n) = f a ∷ entries f (suc a) n

-- how many of the eight bits of register n exist
abbrev pub room_at : Part → ℕ → ℕ
room_at p n = min 8 ((group_in p.groups n).bits - 8 * (n - (group_in p.groups n).first))

-- a part whose ports are all whole
abbrev pub whole : Part → Bool
whole p = eqb (8 * p.ports) p.width

-- the bits of v that exist in register n: all, where the ports are whole
abbrev pub kept_in : Part → (n v : ℕ) → ℕ
kept_in p n v = cond (whole p) v (v % 2 ^ room_at p n)

-- the register file after a reset: one byte for each command number 00h to 7Fh; bits that do not exist are 0 whatever the default
unfoldable pub defaults : Part → List ℕ
defaults p = entries (λ n. kept_in p n (group_in p.groups n).default) 0 128

-- an entry of the file that may stand there: 0 where nothing is stored, and in the output port kind no bit past the ports'
unfoldable pub fitting : Part → Kind → ℕ → Bool
fitting p PortKind v = ltb v (2 ^ p.ports)
fitting p Reserved v = eqb v 0
fitting p Input v = eqb v 0
fitting p Status v = eqb v 0
fitting p InputStatus v = eqb v 0
fitting p Clear v = eqb v 0
fitting p Configuration v = true
fitting p Latch v = true
fitting p Mask v = true
fitting p Edge v = true
fitting p Output v = true
fitting p Polarity v = true
fitting p PinKind v = true
fitting p Stored v = true

-- and no bit that does not exist
abbrev pub fitting_at : Part → (n v : ℕ) → Bool
fitting_at p n v = cond (whole p) (fitting p (kind_at p n) v) (fitting p (kind_at p n) v && ltb v (2 ^ room_at p n))

-- every one of the n entries from a on may stand there
abbrev pub fitting_from : Part → List ℕ → (a n : ℕ) → Bool
fitting_from p regs a zero = true
fitting_from p regs a (suc n) = fitting_at p a (get_or regs a 0) && fitting_from p regs (suc a) n

unfoldable pub file_fits : Part → List ℕ → Bool
file_fits p regs = fitting_from p regs 0 128
