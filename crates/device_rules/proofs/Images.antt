-- Images that fit, and what an event given by its kind and argument is: for every part. Assumes nothing.
use mathlib.Core.Path.{◌≡◌, sym, ap}
use mathlib.Core.Bool.{true, false, not, ◌&&◌}
use Prim.Native.Nat.{ℕ, ◌^◌, ◌<◌}
use borrow.Author.Tests.{lt-ltb, ltb-true, not-true, eq-eqb, eqb-true}
use lib.Dec.{eqb, ltb}
use Rattle.bits.proofs.Decide.{and_left, and_right}
use Rattle.pins.specs.AllPins.{Within}
use Rattle.pins.specs.declared.Sets.{Sets}
use Rattle.map.specs.Map.{Part, reserved, file_fits}
use Rattle.map.proofs.Onward.{known_small}
use Rattle.registers.specs.Interrupt.{Interrupt, worked_out}
use Rattle.registers.proofs.Kept.{same_interrupt}
use Rattle.device_rules.specs.Device.{Identity, State, out, step}
use Rattle.device_rules.specs.Refusals.{event_of, sets_fit, identity_fits, interrupt_fits, image_fits, refusal, stepped}
use Rattle.device_rules.specs.Device.Event.{Start, Stop, ByteSent, ByteFetched}
use Rattle.device_rules.specs.Held.{Sound}
use Rattle.device_rules.specs.declared.Answer.TheVariants.{Refused}

within_of : (p : Part) (x : Sets) → sets_fit p x ≡ true → Within p.width x
unfolding sets_fit
within_of p x e =
    let a = ltb x.level (2 ^ p.width) in
    let b = ltb x.reference (2 ^ p.width) in
    let c = ltb x.held (2 ^ p.width) in
    let d = ltb x.edge (2 ^ p.width) in
    let t = and_right a (b && (c && d)) e in
    let u = and_right b (c && d) t in
    record {
      level_small = ltb-true x.level (2 ^ p.width) (and_left a (b && (c && d)) e);
      reference_small = ltb-true x.reference (2 ^ p.width) (and_left b (c && d) t);
      held_small = ltb-true x.held (2 ^ p.width) (and_left c d u);
      edge_small = ltb-true x.edge (2 ^ p.width) (and_right c d u);
    }

-- what is kept of the interrupt fits exactly if it is what the rules work out
pub right_of : (p : Part) (s : State) → interrupt_fits p s ≡ true → s.interrupt ≡ worked_out p s.regs
unfolding interrupt_fits
right_of p s e =
    let w = worked_out p s.regs in
    let a = eqb s.interrupt.status w.status in
    let b = eqb s.interrupt.line w.line in
    same_interrupt (eqb-true s.interrupt.status w.status (and_left a b e)) (eqb-true s.interrupt.line w.line (and_right a b e))

pub fits_of : (p : Part) (s : State) → s.interrupt ≡ worked_out p s.regs → interrupt_fits p s ≡ true
unfolding interrupt_fits
fits_of p s e =
    simp (eq-eqb _ _ (ap (λ (k : Interrupt). k.status) e), eq-eqb _ _ (ap (λ (k : Interrupt). k.line) e))

pub identity_of : (id : Identity) → identity_fits id ≡ true → (id.number < 2 ^ 24) × (id.place < 3)
unfolding identity_fits
identity_of id e =
    let n = ltb id.number (2 ^ 24) in
    let q = ltb id.place 3 in
    (ltb-true id.number (2 ^ 24) (and_left n q e), ltb-true id.place 3 (and_right n q e))

pub identity_fits_lem : (id : Identity) → id.number < 2 ^ 24 → id.place < 3 → identity_fits id ≡ true
unfolding identity_fits
identity_fits_lem id h m = simp (lt-ltb id.number (2 ^ 24) h, lt-ltb id.place 3 m)

-- what is known of a state whose image is not refused
pub sound_of : (p : Part) (s : State) → image_fits p s ≡ true → Sound p s
unfolding image_fits
sound_of p s e =
    let r = not (reserved p s.pointer) in
    let m = ltb s.mode 2 in
    let b = ltb s.bus 12 in
    let c = ltb s.choice 4 in
    let d = identity_fits s.id in
    let x = sets_fit p s.regs.sets in
    let f = file_fits p s.regs.file in
    let k = interrupt_fits p s in
    let o = and_right r (m && (b && (c && (d && (x && (f && k)))))) e in
    let t = and_right m (b && (c && (d && (x && (f && k))))) o in
    let u = and_right b (c && (d && (x && (f && k)))) t in
    let i = and_right c (d && (x && (f && k))) u in
    let v = and_right d (x && (f && k)) i in
    let id = identity_of s.id (and_left d (x && (f && k)) i) in
    let y = and_right x (f && k) v in
    let known = not-true (reserved p s.pointer) (and_left r (m && (b && (c && (d && (x && (f && k)))))) e) in
    record {
      pointer_small = known_small p s.pointer known;
      pointer_known = known;
      mode_small = ltb-true s.mode 2 (and_left m (b && (c && (d && (x && (f && k))))) o);
      bus_small = ltb-true s.bus 12 (and_left b (c && (d && (x && (f && k)))) t);
      choice_small = ltb-true s.choice 4 (and_left c (d && (x && (f && k))) u);
      id_small = id.0;
      place_small = id.1;
      within = within_of p s.regs.sets (and_left x (f && k) v);
      file_fits_lem = and_left f k y;
      right = right_of p s (and_right f k y);
    }

-- ---- the refusals in their order, and what is not refused
pub broken : (p : Part) (s : State) (kind arg : ℕ) → image_fits p s ≡ false → out (Refused 3) s ≡ stepped p s kind arg
unfolding stepped refusal
broken p s kind arg e = simp e

module _ (p : Part) (s : State) (kind arg : ℕ) where
  pub taken : refusal p s kind arg ≡ 0 → step p s (event_of kind arg) ≡ stepped p s kind arg
  unfolding stepped
  taken q = simp q

module _ (p : Part) (s : State) (arg : ℕ) (e : image_fits p s ≡ true) where
  pub byte_fits : arg < 256 → 0 ≡ refusal p s 2 arg
  unfolding refusal
  byte_fits h = simp (e, lt-ltb arg 256 h)

  pub fetch_fits : arg < 2 → 0 ≡ refusal p s 3 arg
  unfolding refusal
  fetch_fits h = simp (e, lt-ltb arg 2 h)

  pub start_taken : step p s Start ≡ stepped p s 0 arg
  unfolding stepped refusal
  start_taken = simp e

  pub stop_taken : step p s Stop ≡ stepped p s 1 arg
  unfolding stepped refusal
  stop_taken = simp e

  pub byte_taken_lem : arg < 256 → step p s (ByteSent arg) ≡ stepped p s 2 arg
  byte_taken_lem h = taken p s 2 arg (sym (byte_fits h))

  pub fetch_taken : arg < 2 → step p s (ByteFetched (eqb arg 1)) ≡ stepped p s 3 arg
  fetch_taken h = taken p s 3 arg (sym (fetch_fits h))
