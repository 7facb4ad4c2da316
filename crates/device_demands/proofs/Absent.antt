-- Pins that a lawful part does not have are never driven and in no set, and bits that a register does not have read 0: the sets lie below
-- 2 to the width, the file has no such bit, and a place of the last port that is no pin is no input at level 0. Assumes nothing.
use mathlib.Core.Path.{◌≡◌, refl, sym, ap, ◌∙◌}
use mathlib.Core.Bool.{Bool, true, false, cond, ◌&&◌}
use mathlib.Core.List.{List}
use Prim.Native.Nat.{ℕ, ◌+◌, ◌-◌, ◌*◌, ◌^◌, ◌<◌, ◌≤◌}
use native.Mathlib.Omega.{arith}
use borrow.Author.Tests.{ltb-true, le-ltb, leb-true, lt-leb, eqb-true}
use lib.Dec.{eqb, ltb, leb}
use lib.ListN.{get_or}
use Rattle.bits.specs.Bits.{bit}
use Rattle.bits.proofs.Decide.{and_left, and_right}
use Rattle.bits.proofs.Laws.{bit_tabulate, bit_high, bit_zero, tabulate_lt}
use Rattle.pins.specs.OnePin.{input_of, status_of}
use Rattle.pins.specs.Pin.{input_bit, status}
use Rattle.map.specs.Map.{Part, Kind, first_of, kind_at, code, room_at, whole, fitting}
use Rattle.map.specs.Map.Kind.{Reserved, Input, Status, InputStatus, Configuration, Latch, Mask, PortKind, Edge, Clear, Output, Polarity, PinKind, Stored}
use Rattle.map.proofs.ByNumber.{kind_is}
use Rattle.registers.specs.Registers.{one_pin, driven_low, driven_high, shown_as}
use Rattle.registers.specs.Interrupt.{Interrupt, worked_out, shown_kept}
use Rattle.device_rules.specs.Device.{State}
use Rattle.device_rules.specs.PowerOn.{power_on}
use Rattle.map.proofs.Onward.{known_small}
use Rattle.registers.proofs.Lawful.{Lawful, shows_pins, shown_place}
use Rattle.device_demands.specs.Run.{Asked, after}
use Rattle.device_demands.specs.Absent.{NoPin, Nowhere}
use Rattle.device_demands.proofs.Keeps.{WellFormed, fits_entry, no_input, power_on_fits, run_keeps}
use Rattle.device_demands.proofs.Transacting.{shown_right}

module _ (p : Part) (ok : Lawful p) (s : State) (g : WellFormed p s) where
  status_small : s.interrupt.status < 2 ^ p.width
  unfolding worked_out
  status_small = rw (ap (λ (k : Interrupt). k.status) g.sound.right) (tabulate_lt p.width _)

  no_pin : (i : ℕ) → p.width ≤ i → NoPin p s i
  unfolding driven_low driven_high
  no_pin i h = record {
    low = bit_high p.width _ i (tabulate_lt p.width _) h;
    high = bit_high p.width _ i (tabulate_lt p.width _) h;
    level = bit_high p.width _ i g.sound.within.level_small h;
    reference = bit_high p.width _ i g.sound.within.reference_small h;
    held = bit_high p.width _ i g.sound.within.held_small h;
    edge = bit_high p.width _ i g.sound.within.edge_small h;
    status = bit_high p.width _ i status_small h;
  }

  -- no input, at level 0
  no_level : (i : ℕ) → p.width ≤ i → i < 8 * p.ports → input_of (one_pin p s.regs i) ≡ false
  unfolding input_bit
  no_level i h l = simp (no_input p ok s.regs g.sound.file_fits_lem i l (le-ltb i p.width h), (no_pin i h).level)

  no_status : (i : ℕ) → p.width ≤ i → i < 8 * p.ports → status_of (one_pin p s.regs i) ≡ false
  unfolding status
  no_status i h l = simp (no_input p ok s.regs g.sound.file_fits_lem i l (le-ltb i p.width h))

  module _ (n j : ℕ) (hn : n < 128) (out : room_at p n ≤ j) (hj : j < 8) where
    -- the byte of a port that shows such places
    blank : (k : Kind) → shows_pins k ≡ true → kind_at p n ≡ k → (f : ℕ → Bool) → ((i : ℕ) → p.width ≤ i → i < 8 * p.ports → f i ≡ false)
        → f (8 * (n - first_of p k) + j) ≡ false
    blank k t e f none =
        let at = shown_place p ok k t n hn e in
        none (8 * (n - first_of p k) + j) (omega (arith, at.1)) (omega (arith, at.0))

    -- what is stored
    unset : bit (get_or s.regs.file n 0) j ≡ false
    unfolding fitting
    unset = go (whole p) refl (fits_entry p s.regs.file g.sound.file_fits_lem n hn)
      where
        v : ℕ
        v = get_or s.regs.file n 0

        fit : Bool
        fit = fitting p (kind_at p n) v

        kinds : Bool
        kinds = eqb (code (kind_at p n)) (code PortKind)

        ported : whole p ≡ true → (kinds && leb p.ports (room_at p n)) ≡ true
        ported e = simp (e, lt-leb 8 (room_at p n) (omega arith)) at (ok.rooms n hn)

        go : (w : Bool) → whole p ≡ w → cond w fit (fit && ltb v (2 ^ room_at p n)) ≡ true → bit v j ≡ false
        go false e fits = bit_high (room_at p n) v j (ltb-true v (2 ^ room_at p n) (and_right fit (ltb v (2 ^ room_at p n)) fits)) out
        go true e fits =
            let is = kind_is (kind_at p n) 7 (sym (eqb-true _ _ (and_left kinds (leb p.ports (room_at p n)) (ported e)))) in
            let small = ap (λ (k : Kind). fitting p k v) (sym is) ∙ fits in
            let few = leb-true p.ports (room_at p n) (and_right kinds (leb p.ports (room_at p n)) (ported e)) in
            bit_high p.ports v j (ltb-true v (2 ^ p.ports) small) (omega arith)

    no_bit : (k : Kind) → kind_at p n ≡ k → bit (shown_as p k s.regs n) j ≡ false
    unfolding shown_as
    no_bit Input e = bit_tabulate 8 _ j hj ∙ blank Input refl e (λ i. input_of (one_pin p s.regs i)) no_level
    no_bit InputStatus e = bit_tabulate 8 _ j hj ∙ blank InputStatus refl e (λ i. input_of (one_pin p s.regs i)) no_level
    no_bit Status e = bit_tabulate 8 _ j hj ∙ blank Status refl e (λ i. status_of (one_pin p s.regs i)) no_status
    no_bit Clear e = bit_zero j
    no_bit Reserved e = bit_zero j
    no_bit Configuration e = unset
    no_bit Latch e = unset
    no_bit Mask e = unset
    no_bit PortKind e = unset
    no_bit Edge e = unset
    no_bit Output e = unset
    no_bit Polarity e = unset
    no_bit PinKind e = unset
    no_bit Stored e = unset

  pub nowhere : Nowhere p s
  nowhere = record {
    pins = no_pin;
    bits = λ n j known out hj.
        let hn = known_small p n known in
        let as-worked-out = ap (λ (k : Interrupt). bit (shown_kept p (kind_at p n) s.regs k n) j) g.sound.right in
        as-worked-out ∙ ap (λ (b : ℕ). bit b j) (shown_right p ok s.regs g.sound.file_fits_lem n hn) ∙ no_bit n j hn out hj (kind_at p n) refl;
  }

-- and so from power-on, after any list of events
pub nowhere_ever : (p : Part) → Lawful p → (choice levels id : ℕ) → choice < 4 → levels < 2 ^ p.width → id < 2 ^ 24 → (es : List Asked)
    → Nowhere p (after p (power_on p choice levels id) es)
nowhere_ever p ok choice levels id hc hl hi es =
    nowhere p ok (after p (power_on p choice levels id) es) (run_keeps p ok (power_on p choice levels id) (power_on_fits p ok choice levels id hc hl hi) es)
