-- What a part's map must be for the theorems about its planner: tests that antt computes for both parts. Assumes nothing.
use mathlib.Core.Path.{◌≡◌, refl, sym, ap, subst, ◌∙◌}
use mathlib.Core.Bool.{Bool, true, false, cond, not, ◌&&◌, ◌||◌}
use mathlib.Core.List.{List, [], ◌∷◌}
use Prim.Native.Nat.{ℕ, suc, ◌+◌, ◌*◌, ◌%◌, ◌^◌, ◌<◌}
use native.Mathlib.Nat.{min-le_left, mod-mod, mod-eq_of_lt}
use native.Mathlib.Omega.{arith}
use borrow.Author.Tests.{eqb-true, ltb-true, lt-ltb}
use lib.Dec.{eqb, ltb}
use lib.ListN.{get_or, length}
use Rattle.bits.proofs.Decide.{each, each_bool, clash, taut}
use Rattle.map.specs.Chips.{part_at}
use Rattle.map.specs.declared.Chip.{Chip}
use Rattle.map.specs.declared.Chip.TheVariants.{Pcal6524, Pcal6534}
use Rattle.map.specs.Map.{Part, Kind, part24, part34, code, first_of, kind_at, reserved, room_at, whole, kept_in, fitting, fitting_at}
use Rattle.map.specs.Map.Kind.{Reserved, Input, Status, InputStatus, Configuration, Latch, Mask, PortKind, Edge, Clear, Output, Polarity, PinKind, Stored}
use Rattle.registers.specs.Registers.{kept_as}
use Rattle.registers.proofs.Pinwise.{Mapped, mapped24, mapped34}
use Rattle.planner_quiet.specs.Settings.{registers_of, shape_of, place}
use Rattle.planner_quiet.specs.Quiet.{IsPlanned}
use Rattle.planner_quiet.proofs.Along.{Regular}

-- the kinds of a setting's registers
abbrev pub planned : Kind → Bool
planned Output = true
planned Configuration = true
planned PortKind = true
planned PinKind = true
planned Reserved = false
planned Input = false
planned Status = false
planned InputStatus = false
planned Latch = false
planned Mask = false
planned Edge = false
planned Clear = false
planned Polarity = false
planned Stored = false

-- and their room: a bit for each port in the output port kind, and where the ports are whole eight bits in every other
abbrev exact : Part → Kind → (room : ℕ) → Bool
exact p k room = cond (eqb (code k) (code PortKind)) (eqb room p.ports) (not (whole p) || eqb room 8)

-- the number of a setting's q-th register
abbrev pub number_at : Part → ℕ → ℕ
number_at p q = get_or (registers_of p) q 0

-- what is stored of the byte v there
abbrev pub kept_at : Part → (n v : ℕ) → ℕ
kept_at p n v = kept_in p n (kept_as p (kind_at p n) v)

pub record Plannable (p : Part) : Type 0 where
  pub mapped : Mapped p
  pub regular : Regular (shape_of p)
  -- the last port has a pin
  pub reaching : 8 * p.ports < p.width + 8
  pub small : (q : ℕ) → q < length (registers_of p) → ltb (number_at p q) 128 ≡ true
  pub kinds : (q : ℕ) → q < length (registers_of p) → planned (kind_at p (number_at p q)) ≡ true
  pub known : (q : ℕ) → q < length (registers_of p) → not (reserved p (number_at p q)) ≡ true
  pub rooms : (q : ℕ) → q < length (registers_of p) → exact p (kind_at p (number_at p q)) (room_at p (number_at p q)) ≡ true
  -- port k's registers stand at their places
  pub at_output : (k : ℕ) → k < p.ports → number_at p k ≡ first_of p Output + k
  pub at_configuration : (k : ℕ) → k < p.ports → number_at p (p.ports + k) ≡ first_of p Configuration + k
  pub at_kinds : number_at p (2 * p.ports) ≡ first_of p PortKind
  pub at_pin_kinds : (k : ℕ) → k < p.ports → number_at p (2 * p.ports + 1 + k) ≡ first_of p PinKind + k
  -- and any register may hold 0
  pub zero_fits : (n : ℕ) → n < 128 → fitting_at p n 0 ≡ true

pub plannable24 : Plannable part24
unfolding kind_at reserved fitting
plannable24 = record {
  mapped = mapped24;
  regular = record {
    some = omega arith;
    count = refl;
    distinct = refl;
    narrow = λ k. min-le_left 8 _;
    byte = λ i h. min-le_left 8 _;
    room_output = each 3 _ _ tt;
    room_configuration = each 3 _ _ tt;
    room_kinds = refl;
    room_pin_kind = each 3 _ _ tt;
  };
  reaching = omega arith;
  small = each_bool 10 _ _ tt;
  kinds = each_bool 10 _ _ tt;
  known = each_bool 10 _ _ tt;
  rooms = each_bool 10 _ _ tt;
  at_output = each 3 _ _ tt;
  at_configuration = each 3 _ _ tt;
  at_kinds = refl;
  at_pin_kinds = each 3 _ _ tt;
  zero_fits = each_bool 128 _ _ tt;
}

pub plannable34 : Plannable part34
unfolding kind_at reserved fitting
plannable34 = record {
  mapped = mapped34;
  regular = record {
    some = omega arith;
    count = refl;
    distinct = refl;
    narrow = λ k. min-le_left 8 _;
    byte = λ i h. min-le_left 8 _;
    room_output = each 5 _ _ tt;
    room_configuration = each 5 _ _ tt;
    room_kinds = refl;
    room_pin_kind = each 5 _ _ tt;
  };
  reaching = omega arith;
  small = each_bool 16 _ _ tt;
  kinds = each_bool 16 _ _ tt;
  known = each_bool 16 _ _ tt;
  rooms = each_bool 16 _ _ tt;
  at_output = each 5 _ _ tt;
  at_configuration = each 5 _ _ tt;
  at_kinds = refl;
  at_pin_kinds = each 5 _ _ tt;
  zero_fits = each_bool 128 _ _ tt;
}

-- of both, by the part's number
pub plannable : (chip : Chip) → Plannable (part_at chip)
plannable Pcal6524 = plannable24
plannable Pcal6534 = plannable34

-- ---- of a byte the bits that exist are stored, and a byte may stand there that has no other
-- in the output port kind
port_bits : (w : Bool) (ports room v : ℕ) → room ≡ ports
    → (cond w (v % 2 ^ ports) (v % 2 ^ ports % 2 ^ room) ≡ v % 2 ^ room) × (cond w (ltb v (2 ^ ports)) (ltb v (2 ^ ports) && ltb v (2 ^ room)) ≡ ltb v (2 ^ room))
port_bits true ports room v e = (ap (λ (r : ℕ). v % 2 ^ r) (sym e), ap (λ (r : ℕ). ltb v (2 ^ r)) (sym e))
port_bits false ports room v e =
    (ap (λ (r : ℕ). v % 2 ^ r % 2 ^ room) (sym e) ∙ mod-mod v (2 ^ room), ap (λ (r : ℕ). ltb v (2 ^ r) && ltb v (2 ^ room)) (sym e) ∙ twice (ltb v (2 ^ room)))
  where
    twice : (b : Bool) → (b && b) ≡ b
    twice = taut 1 _ _ tt

-- in a register of one bit a pin
pin_bits : (w : Bool) (room v : ℕ) → (not w || eqb room 8) ≡ true → v < 256
    → (cond w v (v % 2 ^ room) ≡ v % 2 ^ room) × (cond w true (ltb v (2 ^ room)) ≡ ltb v (2 ^ room))
pin_bits true room v e h =
    let eight = sym (eqb-true room 8 e) in
    (sym (mod-eq_of_lt h) ∙ ap (λ (r : ℕ). v % 2 ^ r) eight, sym (lt-ltb v 256 h) ∙ ap (λ (r : ℕ). ltb v (2 ^ r)) eight)
pin_bits false room v e h = (refl, refl)

module _ (p : Part) (room v : ℕ) (h : v < 256) where
  by_kind : (k : Kind) → planned k ≡ true → exact p k room ≡ true
      → (cond (whole p) (kept_as p k v) (kept_as p k v % 2 ^ room) ≡ v % 2 ^ room)
      × (cond (whole p) (fitting p k v) (fitting p k v && ltb v (2 ^ room)) ≡ ltb v (2 ^ room))
  unfolding fitting
  by_kind PortKind t e = port_bits (whole p) p.ports room v (eqb-true room p.ports e)
  by_kind Output t e = pin_bits (whole p) room v e h
  by_kind Configuration t e = pin_bits (whole p) room v e h
  by_kind PinKind t e = pin_bits (whole p) room v e h
  by_kind Reserved t e = clash false t refl
  by_kind Input t e = clash false t refl
  by_kind Status t e = clash false t refl
  by_kind InputStatus t e = clash false t refl
  by_kind Latch t e = clash false t refl
  by_kind Mask t e = clash false t refl
  by_kind Edge t e = clash false t refl
  by_kind Clear t e = clash false t refl
  by_kind Polarity t e = clash false t refl
  by_kind Stored t e = clash false t refl

-- ---- of a register of the setting, by its number
found : (xs : List ℕ) (r : ℕ) → place xs r < length xs → get_or xs (place xs r) 0 ≡ r
found [] r h = absurd (omega arith)
found (x ∷ xs) r h = go (found xs r) (eqb x r) refl h
  where
    go : (place xs r < length xs → get_or xs (place xs r) 0 ≡ r) → (b : Bool) → eqb x r ≡ b
        → cond b 0 (suc (place xs r)) < suc (length xs) → get_or (x ∷ xs) (cond b 0 (suc (place xs r))) 0 ≡ r
    go rest true e q = eqb-true x r e
    go rest false e q = rest (omega (arith, q))

module _ (p : Part) (ok : Plannable p) (r : ℕ) (h : IsPlanned p r) where
  abbrev q : ℕ
  q = place (registers_of p) r

  pub is_found : number_at p q ≡ r
  is_found = found (registers_of p) r h

  -- what holds of each of the setting's registers
  pub of_each : (P : ℕ → Bool) → ((q : ℕ) → q < length (registers_of p) → P (number_at p q) ≡ true) → P r ≡ true
  of_each P f = subst (λ (n : ℕ). P n ≡ true) is_found (f q h)

  pub planned_small : r < 128
  planned_small = ltb-true r 128 (of_each (λ n. ltb n 128) ok.small)

  pub planned_kind : planned (kind_at p r) ≡ true
  planned_kind = of_each (λ n. planned (kind_at p n)) ok.kinds

  module _ (v : ℕ) (hv : v < 256) where
    bits : (kept_at p r v ≡ v % 2 ^ room_at p r) × (fitting_at p r v ≡ ltb v (2 ^ room_at p r))
    bits = by_kind p (room_at p r) v hv (kind_at p r) planned_kind (of_each (λ n. exact p (kind_at p n) (room_at p n)) ok.rooms)

    pub kept_bits : kept_at p r v ≡ v % 2 ^ room_at p (number_at p q)
    kept_bits = bits.0 ∙ ap (λ (n : ℕ). v % 2 ^ room_at p n) (sym is_found)

    pub fits_bits : fitting_at p r v ≡ ltb v (2 ^ room_at p (number_at p q))
    fits_bits = bits.1 ∙ ap (λ (n : ℕ). ltb v (2 ^ room_at p n)) (sym is_found)
