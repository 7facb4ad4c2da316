-- Each pin's registers after a register is written, for every part whose map has the tests below: what happens to one pin. Assumes nothing.
use mathlib.Core.Path.{◌≡◌, refl, ap, ◌∙◌}
use mathlib.Core.Bool.{Bool, true, false, cond, not, ◌&&◌}
use mathlib.Core.List.{List}
use Prim.Native.Nat.{ℕ, ◌+◌, ◌-◌, ◌*◌, ◌/◌, ◌%◌, ◌^◌, ◌<◌, ◌≤◌}
use native.Mathlib.Nat.{div-add-mod'}
use native.Mathlib.Omega.{arith}
use borrow.Author.Tests.{eqb-true, eqb-false, ltb-true, not-true}
use lib.Arith.{digits_div, digits_mod}
use lib.Dec.{eqb, ltb}
use lib.ListN.{length, get_or, set}
use lib.Seq.{get_or-set_same, get_or-set_other}
use Rattle.bits.specs.Bits.{bit}
use Rattle.bits.proofs.Decide.{each_bool, clash, and_left, and_right}
use Rattle.bits.proofs.Laws.{bit_mod}
use Rattle.pins.specs.Pin.{source}
use Rattle.pins.specs.OnePin.{Registers, registers, registers_after}
use Rattle.pins.specs.OnePin as one
use Rattle.pins.specs.OnePin.Happening.{ClearWritten, MaskWritten, EdgeWritten, LatchWritten, ConfigurationWritten, OutputWritten, PolarityWritten, PinKindWritten, Elsewhere}
use Rattle.ports.specs.Ports.{port_bit, in_edge, rising_bit, falling_bit}
use Rattle.map.specs.Map.{Part, Kind, part24, part34, first_of, kind_at, code, stored, room_at, whole, kept_in, defaults}
use Rattle.map.specs.Map.Kind.{Reserved, Input, Status, InputStatus, Configuration, Latch, Mask, PortKind, Edge, Clear, Output, Polarity, PinKind, Stored}
use Rattle.map.proofs.ByNumber.{ported}
use Rattle.registers.specs.Registers.{group_bit, edge_byte, registers_at, of_port, written_to, kept_as}

-- kinds of one byte a port that are stored
abbrev pub grouped : Kind → Bool
grouped k = ported k && stored k

-- number n is the q-th of the group of kind k exactly if it is of that kind, at that place: for the first so many places, m is 128 times q and n
abbrev Owned : Part → Kind → (places : ℕ) → Type 0
Owned p k places =
    (m : ℕ) → m < places * 128
    → eqb (first_of p k + m / 128) (m % 128) ≡ (eqb (code (kind_at p (m % 128))) (code k) && eqb (m / 128) (m % 128 - first_of p k))

-- the bit of each pin exists in the register of the group that holds it
abbrev Roomy : Part → Kind → Type 0
Roomy p k = (i : ℕ) → i < p.width → ltb (i % 8) (room_at p (first_of p k + i / 8)) ≡ true

-- the registers of one pin after a reset: output 1, configuration 1, mask 1, all else 0
abbrev is_default : Registers → Bool
is_default v =
    v.source.configuration
    && (v.source.mask
    && (not v.source.latch && (not v.source.rising && (not v.source.falling && (v.output && (not v.polarity && (not v.port_kind && not v.pin_kind)))))))

-- what a part's map must be for its registers to be one pin's each: tests that antt computes
pub record Mapped (p : Part) : Type 0 where
  pub fields : ℕ
  pub own : (k : Kind) → grouped k ≡ true → Owned p k p.ports
  pub own_edge : Owned p Edge fields
  pub own_kind : (n : ℕ) → n < 128 → eqb (first_of p PortKind) n ≡ eqb (code (kind_at p n)) (code PortKind)
  pub room : (k : Kind) → grouped k ≡ true → Roomy p k
  pub room_edge : (i : ℕ) → i < p.width → ltb (2 * (i % 4) + 1) (room_at p (first_of p Edge + i / 4)) ≡ true
  pub room_kind : room_at p (first_of p PortKind) ≡ p.ports
  pub default : (i : ℕ) → i < p.width → is_default (registers_at p (defaults p) i) ≡ true
  pub narrow : p.width ≤ 8 * p.ports
  pub fielded : p.width ≤ 4 * fields

own24 : (k : Kind) → grouped k ≡ true → Owned part24 k 3
unfolding kind_at
own24 Configuration t = each_bool 384 _ _ tt
own24 Mask t = each_bool 384 _ _ tt
own24 Latch t = each_bool 384 _ _ tt
own24 Output t = each_bool 384 _ _ tt
own24 Polarity t = each_bool 384 _ _ tt
own24 PinKind t = each_bool 384 _ _ tt
own24 Reserved t = clash false t refl
own24 Input t = clash false t refl
own24 Status t = clash false t refl
own24 InputStatus t = clash false t refl
own24 PortKind t = clash false t refl
own24 Edge t = clash false t refl
own24 Clear t = clash false t refl
own24 Stored t = clash false t refl

own34 : (k : Kind) → grouped k ≡ true → Owned part34 k 5
unfolding kind_at
own34 Configuration t = each_bool 640 _ _ tt
own34 Mask t = each_bool 640 _ _ tt
own34 Latch t = each_bool 640 _ _ tt
own34 Output t = each_bool 640 _ _ tt
own34 Polarity t = each_bool 640 _ _ tt
own34 PinKind t = each_bool 640 _ _ tt
own34 Reserved t = clash false t refl
own34 Input t = clash false t refl
own34 Status t = clash false t refl
own34 InputStatus t = clash false t refl
own34 PortKind t = clash false t refl
own34 Edge t = clash false t refl
own34 Clear t = clash false t refl
own34 Stored t = clash false t refl

room24 : (k : Kind) → grouped k ≡ true → Roomy part24 k
room24 Configuration t = each_bool 24 _ _ tt
room24 Mask t = each_bool 24 _ _ tt
room24 Latch t = each_bool 24 _ _ tt
room24 Output t = each_bool 24 _ _ tt
room24 Polarity t = each_bool 24 _ _ tt
room24 PinKind t = each_bool 24 _ _ tt
room24 Reserved t = clash false t refl
room24 Input t = clash false t refl
room24 Status t = clash false t refl
room24 InputStatus t = clash false t refl
room24 PortKind t = clash false t refl
room24 Edge t = clash false t refl
room24 Clear t = clash false t refl
room24 Stored t = clash false t refl

room34 : (k : Kind) → grouped k ≡ true → Roomy part34 k
room34 Configuration t = each_bool 34 _ _ tt
room34 Mask t = each_bool 34 _ _ tt
room34 Latch t = each_bool 34 _ _ tt
room34 Output t = each_bool 34 _ _ tt
room34 Polarity t = each_bool 34 _ _ tt
room34 PinKind t = each_bool 34 _ _ tt
room34 Reserved t = clash false t refl
room34 Input t = clash false t refl
room34 Status t = clash false t refl
room34 InputStatus t = clash false t refl
room34 PortKind t = clash false t refl
room34 Edge t = clash false t refl
room34 Clear t = clash false t refl
room34 Stored t = clash false t refl

pub mapped24 : Mapped part24
unfolding kind_at defaults bit
mapped24 = record {
  fields = 6;
  own = own24;
  own_edge = each_bool 768 _ _ tt;
  own_kind = each_bool 128 _ _ tt;
  room = room24;
  room_edge = each_bool 24 _ _ tt;
  room_kind = refl;
  default = each_bool 24 _ _ tt;
  narrow = omega arith;
  fielded = omega arith;
}

pub mapped34 : Mapped part34
unfolding kind_at defaults bit
mapped34 = record {
  fields = 9;
  own = own34;
  own_edge = each_bool 1152 _ _ tt;
  own_kind = each_bool 128 _ _ tt;
  room = room34;
  room_edge = each_bool 34 _ _ tt;
  room_kind = refl;
  default = each_bool 34 _ _ tt;
  narrow = omega arith;
  fielded = omega arith;
}

-- the defaults of the file are the defaults of each pin
pub default_pin : (p : Part) → Mapped p → (i : ℕ) → i < p.width → registers_at p (defaults p) i ≡ one.defaults
default_pin p ok i h = same (registers_at p (defaults p) i) (ok.default i h)
  where
    same : (v : Registers) → is_default v ≡ true → v ≡ one.defaults
    same v e =
        let e1 = and_right v.source.configuration _ e in
        let e2 = and_right v.source.mask _ e1 in
        let e3 = and_right (not v.source.latch) _ e2 in
        let e4 = and_right (not v.source.rising) _ e3 in
        let e5 = and_right (not v.source.falling) _ e4 in
        let e6 = and_right v.output _ e5 in
        let e7 = and_right (not v.polarity) _ e6 in
        λ j. record {
          source = record {
            configuration = and_left v.source.configuration _ e j;
            mask = and_left v.source.mask _ e1 j;
            latch = not-true v.source.latch (and_left (not v.source.latch) _ e2) j;
            rising = not-true v.source.rising (and_left (not v.source.rising) _ e3) j;
            falling = not-true v.source.falling (and_left (not v.source.falling) _ e4) j;
          };
          output = and_left v.output _ e5 j;
          polarity = not-true v.polarity (and_left (not v.polarity) _ e6) j;
          port_kind = not-true v.port_kind (and_left (not v.port_kind) _ e7) j;
          pin_kind = not-true v.pin_kind (and_right (not v.port_kind) _ e7) j;
        }

-- ---- what the file says of pin i after number n of it holds u
pub load_set : (file : List ℕ) (n u k : ℕ) → n < length file → get_or (set file n u) k 0 ≡ cond (eqb k n) u (get_or file k 0)
load_set file n u k h = go (eqb k n) refl
  where
    go : (b : Bool) → eqb k n ≡ b → get_or (set file n u) k 0 ≡ cond b u (get_or file k 0)
    go true e = ap (λ (j : ℕ). get_or (set file n u) j 0) (eqb-true k n e) ∙ get_or-set_same file n u 0 h
    go false e = get_or-set_other file n k u 0 (eqb-false k n e)

-- a bit that exists is kept
kept_bit : (p : Part) (n u j : ℕ) → j < room_at p n → bit (kept_in p n u) j ≡ bit u j
kept_bit p n u j h = go (whole p)
  where
    go : (t : Bool) → bit (cond t u (u % 2 ^ room_at p n)) j ≡ bit u j
    go true = refl
    go false = bit_mod (room_at p n) u j h

-- the registers of pin i after u is kept at number n, of kind k
abbrev registers_with : Part → Kind → List ℕ → (n u i : ℕ) → Registers
registers_with p k file n u i =
    registers
    (source (own Configuration) (own Mask) (own Latch)
    (cond edge (rising_bit u i) (rising_bit (edge_byte p file i) i)) (cond edge (falling_bit u i) (falling_bit (edge_byte p file i) i)))
    (own Output)
    (own Polarity)
    (cond (eqb (code k) (code PortKind)) (bit u (i / 8)) (bit (get_or file (first_of p PortKind) 0) (i / 8)))
    (own PinKind)
  where
    own : Kind → Bool
    own g = cond (eqb (code k) (code g) && of_port p g n i) (port_bit u i) (group_bit p file g i)

    edge : Bool
    edge = eqb (code k) (code Edge) && in_edge (n - first_of p Edge) i

module _ (p : Part) (ok : Mapped p) (file : List ℕ) (n u i : ℕ) (full : length file ≡ 128) (hn : n < 128) (hi : i < p.width) where
  -- bit j of the entry at number a, which is n or not, where that bit exists
  entry_bit : (a j : ℕ) → j < room_at p a → bit (get_or (set file n (kept_in p n u)) a 0) j ≡ cond (eqb a n) (bit u j) (bit (get_or file a 0) j)
  entry_bit a j h =
      ap (λ (b : ℕ). bit b j) (load_set file n (kept_in p n u) a (omega (arith, full, hn))) ∙ go (eqb a n) refl
    where
      go : (b : Bool) → eqb a n ≡ b → bit (cond b (kept_in p n u) (get_or file a 0)) j ≡ cond b (bit u j) (bit (get_or file a 0) j)
      go true e = kept_bit p n u j (rw (eqb-true a n e) at h)
      go false e = refl

  -- the q-th place of a group
  place : (k : Kind) (places q : ℕ) → Owned p k places → q < places
      → eqb (first_of p k + q) n ≡ (eqb (code (kind_at p n)) (code k) && eqb q (n - first_of p k))
  place k places q test h =
      let d : (q * 128 + n) / 128 ≡ q = digits_div q hn in
      let m : (q * 128 + n) % 128 ≡ n = digits_mod q hn in
      rw (d, m) at (test (q * 128 + n) (omega (arith, h, hn)))

  group_after : (k : Kind) → grouped k ≡ true
      → group_bit p (set file n (kept_in p n u)) k i ≡ cond (eqb (code (kind_at p n)) (code k) && of_port p k n i) (port_bit u i) (group_bit p file k i)
  group_after k t =
      entry_bit (first_of p k + i / 8) (i % 8) (ltb-true (i % 8) (room_at p (first_of p k + i / 8)) (ok.room k t i hi))
      ∙ ap (λ (b : Bool). cond b (port_bit u i) (group_bit p file k i))
      (place k p.ports (i / 8) (ok.own k t) (omega (arith, div-add-mod' i 8, ok.narrow, hi)))

  edge_after : (j : ℕ) → j < room_at p (first_of p Edge + i / 4)
      → bit (edge_byte p (set file n (kept_in p n u)) i) j
      ≡ cond (eqb (code (kind_at p n)) (code Edge) && in_edge (n - first_of p Edge) i) (bit u j) (bit (edge_byte p file i) j)
  edge_after j h =
      entry_bit (first_of p Edge + i / 4) j h
      ∙ ap (λ (b : Bool). cond b (bit u j) (bit (edge_byte p file i) j))
      (place Edge ok.fields (i / 4) ok.own_edge (omega (arith, div-add-mod' i 4, ok.fielded, hi)))

  its_field : 2 * (i % 4) + 1 < room_at p (first_of p Edge + i / 4)
  its_field = ltb-true _ _ (ok.room_edge i hi)

  its_port : i / 8 < p.ports
  its_port = omega (arith, div-add-mod' i 8, ok.narrow, hi)

  kind_after : bit (get_or (set file n (kept_in p n u)) (first_of p PortKind) 0) (i / 8)
      ≡ cond (eqb (code (kind_at p n)) (code PortKind)) (bit u (i / 8)) (bit (get_or file (first_of p PortKind) 0) (i / 8))
  kind_after =
      entry_bit (first_of p PortKind) (i / 8) (rw ok.room_kind its_port)
      ∙ ap (λ (b : Bool). cond b (bit u (i / 8)) (bit (get_or file (first_of p PortKind) 0) (i / 8))) (ok.own_kind n hn)

  pub registers_set : registers_at p (set file n (kept_in p n u)) i ≡ registers_with p (kind_at p n) file n u i
  registers_set =
      let high = its_field in
      λ j. record {
        source = record {
          configuration = group_after Configuration refl j;
          mask = group_after Mask refl j;
          latch = group_after Latch refl j;
          rising = edge_after (2 * (i % 4)) (omega arith) j;
          falling = edge_after (2 * (i % 4) + 1) high j;
        };
        output = group_after Output refl j;
        polarity = group_after Polarity refl j;
        port_kind = kind_after j;
        pin_kind = group_after PinKind refl j;
      }

-- ---- what a written bit does to the pin's registers, where the register holds the pin and where it does not
abbrev with_source_lem : Registers → (configuration mask latch rising falling : Bool) → Registers
with_source_lem v configuration mask latch rising falling =
    registers (source configuration mask latch rising falling) v.output v.polarity v.port_kind v.pin_kind

module _ (v : Registers) where
  configuration_bit : (here b : Bool)
      → with_source_lem v (cond here b v.source.configuration) v.source.mask v.source.latch v.source.rising v.source.falling
      ≡ registers_after (cond here (ConfigurationWritten b) Elsewhere) v
  unfolding registers_after
  configuration_bit true b = refl
  configuration_bit false b = refl

  mask_bit : (here b : Bool)
      → with_source_lem v v.source.configuration (cond here b v.source.mask) v.source.latch v.source.rising v.source.falling
      ≡ registers_after (cond here (MaskWritten b) Elsewhere) v
  unfolding registers_after
  mask_bit true b = refl
  mask_bit false b = refl

  latch_bit : (here b : Bool)
      → with_source_lem v v.source.configuration v.source.mask (cond here b v.source.latch) v.source.rising v.source.falling
      ≡ registers_after (cond here (LatchWritten b) Elsewhere) v
  unfolding registers_after
  latch_bit true b = refl
  latch_bit false b = refl

  edge_bits : (here r f : Bool)
      → with_source_lem v v.source.configuration v.source.mask v.source.latch (cond here r v.source.rising) (cond here f v.source.falling)
      ≡ registers_after (cond here (EdgeWritten r f) Elsewhere) v
  unfolding registers_after
  edge_bits true r f = refl
  edge_bits false r f = refl

  output_bit : (here b : Bool)
      → registers v.source (cond here b v.output) v.polarity v.port_kind v.pin_kind ≡ registers_after (cond here (OutputWritten b) Elsewhere) v
  unfolding registers_after
  output_bit true b = refl
  output_bit false b = refl

  polarity_bit : (here b : Bool)
      → registers v.source v.output (cond here b v.polarity) v.port_kind v.pin_kind ≡ registers_after (cond here (PolarityWritten b) Elsewhere) v
  unfolding registers_after
  polarity_bit true b = refl
  polarity_bit false b = refl

  pin_kind_bit : (here b : Bool)
      → registers v.source v.output v.polarity v.port_kind (cond here b v.pin_kind) ≡ registers_after (cond here (PinKindWritten b) Elsewhere) v
  unfolding registers_after
  pin_kind_bit true b = refl
  pin_kind_bit false b = refl

  clear_bit : (here b : Bool) → v ≡ registers_after (cond here (ClearWritten b) Elsewhere) v
  unfolding registers_after
  clear_bit true b = refl
  clear_bit false b = refl

-- the registers of pin i after v is written to register n
module _ (p : Part) (ok : Mapped p) (file : List ℕ) (n v i : ℕ) (full : length file ≡ 128) (hn : n < 128) (hi : i < p.width) where
  pub registers_written : (k : Kind) → kind_at p n ≡ k
      → registers_at p (cond (stored k) (set file n (kept_in p n (kept_as p k v))) file) i ≡ registers_after (written_to p k n v i) (registers_at p file i)
  unfolding written_to registers_after
  registers_written k e = go k e
    where
      R : Registers
      R = registers_at p file i

      at : (k : Kind) → kind_at p n ≡ k → (u : ℕ) → registers_at p (set file n (kept_in p n u)) i ≡ registers_with p k file n u i
      at k e u = registers_set p ok file n u i full hn hi ∙ ap (λ (k : Kind). registers_with p k file n u i) e

      go : (k : Kind) → kind_at p n ≡ k
          → registers_at p (cond (stored k) (set file n (kept_in p n (kept_as p k v))) file) i ≡ registers_after (written_to p k n v i) (registers_at p file i)
      go Reserved e = refl
      go Input e = refl
      go Status e = refl
      go InputStatus e = refl
      go Configuration e = at Configuration e v ∙ configuration_bit R (of_port p Configuration n i) (port_bit v i)
      go Latch e = at Latch e v ∙ latch_bit R (of_port p Latch n i) (port_bit v i)
      go Mask e = at Mask e v ∙ mask_bit R (of_port p Mask n i) (port_bit v i)
      go PortKind e =
          at PortKind e (v % 2 ^ p.ports)
          ∙ ap (λ (b : Bool). registers R.source R.output R.polarity b R.pin_kind)
          (bit_mod p.ports v (i / 8) (omega (arith, div-add-mod' i 8, ok.narrow, hi)))
      go Edge e = at Edge e v ∙ edge_bits R (in_edge (n - first_of p Edge) i) (rising_bit v i) (falling_bit v i)
      go Clear e = clear_bit R (of_port p Clear n i) (port_bit v i)
      go Output e = at Output e v ∙ output_bit R (of_port p Output n i) (port_bit v i)
      go Polarity e = at Polarity e v ∙ polarity_bit R (of_port p Polarity n i) (port_bit v i)
      go PinKind e = at PinKind e v ∙ pin_kind_bit R (of_port p PinKind n i) (port_bit v i)
      go Stored e = at Stored e v
