-- Power-on is well formed, every step keeps it so, and so no run from power-on is ever refused for its image: for every lawful part. Assumes nothing.
use mathlib.Core.Path.{◌≡◌, refl, sym, ap, ◌∙◌}
use mathlib.Core.Bool.{Bool, true, false, cond, not, ◌&&◌, ◌||◌}
use mathlib.Core.List.{List, [], ◌∷◌}
use Prim.Native.Nat.{ℕ, zero, suc, ◌+◌, ◌*◌, ◌/◌, ◌%◌, ◌^◌, ◌<◌, ◌≤◌}
use native.Mathlib.Nat.{mod-lt, mod-le, div-add-mod'}
use native.Mathlib.Omega.{arith}
use borrow.Author.Tests.{lt-ltb, ltb-true, leb-true, eqb-true, not-true}
use lib.Dec.{eqb, ltb, leb}
use lib.ListN.{length, get_or, set, length-set}
use lib.Pow.{pow_pos}
use Rattle.bits.proofs.Decide.{clash, and_left, and_right, either_arm}
use Rattle.bits.proofs.Laws.{bit_high}
use Rattle.pins.specs.AllPins.{Within}
use Rattle.pins.specs.declared.Sets.{Sets}
use Rattle.pins.proofs.AllPins.{map_within}
use Rattle.map.specs.Map.{Part, Kind, first_of, kind_at, reserved, next, onward, next_in, stored, defaults, room_at, whole, kept_in, fitting, fitting_at, fitting_from, file_fits}
use Rattle.map.specs.Map.Kind.{Reserved, Input, Status, InputStatus, Configuration, Latch, Mask, PortKind, Edge, Clear, Output, Polarity, PinKind, Stored}
use Rattle.registers.specs.Registers.{Core, core, group_bit, kept_as, written_as, fetched, levelled, int_asserted}
use Rattle.registers.specs.Interrupt.{worked_out}
use Rattle.registers.proofs.Writing.{same as same-core}
use Rattle.registers.proofs.Kept.{kept_written, kept_fetched, kept_levelled, kept_reset, line_right}
use Rattle.pins.proofs.Rules.{reset_map}
use Rattle.device_rules.specs.Device.{State, Event, Bus, Outcome, number, bus_at, state, out, goes, address_byte, ours, next_place, at_place, addressed, byte_in, fetch_in, start_in, resetted, step}
use Rattle.device_rules.specs.Refusals.{sets_fit, image_fits, refusal, stepped, event_of}
use Rattle.device_rules.specs.Device.Bus.{Idle, Opened, Chosen, Filling, Sending, Call, Armed, Deaf, Asking, Named, Reopened, Telling}
use Rattle.device_rules.specs.Device.Event.{Start, Stop, HardwareReset, ByteSent, ByteFetched, Levels}
use Rattle.device_rules.specs.Held.{Sound}
use Rattle.device_rules.specs.declared.Answer.TheVariants.{Ack, Nak}
use Rattle.device_rules.specs.PowerOn.{power_on}
use Rattle.map.proofs.Onward.{known_small}
use Rattle.device_rules.proofs.Images.{sound_of, fits_of, identity_fits_lem}
use Rattle.device_demands.specs.Run.{Asked, after}
use Rattle.registers.proofs.Pinwise.{load_set}
use Rattle.registers.proofs.Lawful.{Lawful}

-- ---- the file, entry by entry
module _ (p : Part) (file : List ℕ) where
  abbrev Fine : ℕ → Type 0
  Fine m = fitting_at p m (get_or file m 0) ≡ true

  from_entries : (n a : ℕ) → ((m : ℕ) → m < a + n → Fine m) → fitting_from p file a n ≡ true
  from_entries zero a f = refl
  from_entries (suc n) a f =
      ap (λ (b : Bool). b && fitting_from p file (suc a) n) (f a (omega arith)) ∙ from_entries n (suc a) (λ m h. f m (omega arith))

  to_entry : (n a j : ℕ) → fitting_from p file a n ≡ true → j < n → Fine (a + j)
  to_entry zero a j e h = absurd (omega arith)
  to_entry (suc n) a zero e h =
      ap (λ (m : ℕ). fitting_at p m (get_or file m 0)) (omega arith)
      ∙ and_left (fitting_at p a (get_or file a 0)) (fitting_from p file (suc a) n) e
  to_entry (suc n) a (suc j) e h =
      ap (λ (m : ℕ). fitting_at p m (get_or file m 0)) (omega arith)
      ∙ to_entry n (suc a) j (and_right (fitting_at p a (get_or file a 0)) (fitting_from p file (suc a) n) e) (omega arith)

  entries_fit : ((m : ℕ) → m < 128 → Fine m) → file_fits p file ≡ true
  unfolding file_fits
  entries_fit f = from_entries 128 0 f

  pub fits_entry : file_fits p file ≡ true → (m : ℕ) → m < 128 → Fine m
  unfolding file_fits
  fits_entry e m h = ap (λ (k : ℕ). fitting_at p k (get_or file k 0)) (omega arith) ∙ to_entry 128 0 m e h

-- a place of the last port that is no pin has no bit in the configuration: it is no input
pub no_input : (p : Part) → Lawful p → (r : Core) → file_fits p r.file ≡ true → (i : ℕ) → i < 8 * p.ports → ltb i p.width ≡ false
    → group_bit p r.file Configuration i ≡ false
no_input p ok r fits i h e =
    let n = first_of p Configuration + i / 8 in
    let v = get_or r.file n 0 in
    let part = not (whole p) in
    let past = leb (room_at p n) (i % 8) in
    let absent : (part && past) ≡ true = ap (λ (b : Bool). b || (part && past)) (sym e) ∙ ok.missing i h in
    let listed = ltb-true n 128 (ok.listed (i / 8) (omega (arith, div-add-mod' i 8, h))) in
    let fit = fitting p (kind_at p n) v in
    let small = ltb v (2 ^ room_at p n) in
    let cut = not-true (whole p) (and_left part past absent) in
    let entry : (fit && small) ≡ true = ap (λ (b : Bool). cond b fit (fit && small)) (sym cut) ∙ fits_entry p r.file fits n listed in
    bit_high (room_at p n) v (i % 8) (ltb-true v (2 ^ room_at p n) (and_right fit small entry)) (leb-true (room_at p n) (i % 8) (and_right part past absent))

-- what is kept of a written byte may stand there, and so may its bits that exist
module _ (p : Part) where
  kept_fits : (k : Kind) (u v : ℕ) → u ≤ kept_as p k v → stored k ≡ true → fitting p k u ≡ true
  unfolding fitting
  kept_fits PortKind u v h t = lt-ltb u (2 ^ p.ports) (omega (arith, h, mod-lt v (pow_pos p.ports)))
  kept_fits Configuration u v h t = refl
  kept_fits Latch u v h t = refl
  kept_fits Mask u v h t = refl
  kept_fits Edge u v h t = refl
  kept_fits Output u v h t = refl
  kept_fits Polarity u v h t = refl
  kept_fits PinKind u v h t = refl
  kept_fits Stored u v h t = refl
  kept_fits Reserved u v h t = clash false t refl
  kept_fits Input u v h t = clash false t refl
  kept_fits Status u v h t = clash false t refl
  kept_fits InputStatus u v h t = clash false t refl
  kept_fits Clear u v h t = clash false t refl

  kept_fits_at : (n : ℕ) (k : Kind) → kind_at p n ≡ k → (v : ℕ) → stored k ≡ true → fitting_at p n (kept_in p n (kept_as p k v)) ≡ true
  kept_fits_at n k e v t = go (whole p)
    where
      u : ℕ
      u = kept_as p k v

      m : ℕ
      m = 2 ^ room_at p n

      at : (x : ℕ) → fitting p k x ≡ true → fitting p (kind_at p n) x ≡ true
      at x q = ap (λ (j : Kind). fitting p j x) e ∙ q

      go : (w : Bool) → cond w (fitting p (kind_at p n) (cond w u (u % m))) (fitting p (kind_at p n) (cond w u (u % m)) && ltb (cond w u (u % m)) m) ≡ true
      go true = at u (kept_fits k u v (omega arith) t)
      go false = simp (at (u % m) (kept_fits k (u % m) v (mod-le u m) t), lt-ltb (u % m) m (mod-lt u (pow_pos (room_at p n))))

-- the defaults are 128 entries
defaults_full : (p : Part) → length (defaults p) ≡ 128
unfolding defaults
defaults_full p = refl

-- ---- a well-formed state: its image is not refused, and its file has 128 entries
pub record WellFormed (p : Part) (s : State) : Type 0 where
  pub sound : Sound p s
  pub full : length s.regs.file ≡ 128

sets_fit_lem : (p : Part) (x : Sets) → Within p.width x → sets_fit p x ≡ true
unfolding sets_fit
sets_fit_lem p x d =
    simp (lt-ltb x.level (2 ^ p.width) d.level_small, lt-ltb x.reference (2 ^ p.width) d.reference_small, lt-ltb x.held (2 ^ p.width) d.held_small, lt-ltb x.edge (2 ^ p.width) d.edge_small)

pub image_of : (p : Part) (s : State) → Sound p s → image_fits p s ≡ true
unfolding image_fits
image_of p s d =
    simp (
      d.pointer_known,
      lt-ltb s.mode 2 d.mode_small,
      lt-ltb s.bus 12 d.bus_small,
      lt-ltb s.choice 4 d.choice_small,
      identity_fits_lem s.id d.id_small d.place_small,
      sets_fit_lem p s.regs.sets d.within,
      d.file_fits_lem,
      fits_of p s d.right,
    )

pub well_formed : (p : Part) (s : State) → image_fits p s ≡ true → length s.regs.file ≡ 128 → WellFormed p s
well_formed p s e l = record { sound = sound_of p s e; full = l }

-- the pointer steps to a number that is not reserved, in either mode
next_known : (p : Part) → Lawful p → (mode n : ℕ) → n < 128 → reserved p n ≡ false → reserved p (next_in p mode n) ≡ false
unfolding next_in
next_known p ok mode n h e =
    either_arm (λ (m : ℕ). reserved p m ≡ false) (eqb mode 1)
    (not-true (reserved p (onward p n)) (ap (λ (b : Bool). b || not (reserved p (onward p n))) (sym e) ∙ ok.walks n h))
    (not-true (reserved p (next p n)) (ap (λ (b : Bool). b || not (reserved p (next p n))) (sym e) ∙ ok.steps n h))

-- the place steps to a place
next_small : (place : ℕ) → next_place place < 3
next_small zero = omega arith
next_small (suc zero) = omega arith
next_small (suc (suc place)) = omega arith

-- ---- each way in which a step changes the state
module _ (p : Part) (ok : Lawful p) (s : State) (g : WellFormed p s) where
  pub to : (b : Bus) → WellFormed p (goes s b)
  to b = record {
    sound = record {
      pointer_small = g.sound.pointer_small;
      pointer_known = g.sound.pointer_known;
      mode_small = g.sound.mode_small;
      bus_small = small b;
      choice_small = g.sound.choice_small;
      id_small = g.sound.id_small;
      place_small = g.sound.place_small;
      within = g.sound.within;
      file_fits_lem = g.sound.file_fits_lem;
      right = g.sound.right;
    };
    full = g.full;
  }
    where
      small : (b : Bus) → number b < 12
      small Idle = omega arith
      small Opened = omega arith
      small Chosen = omega arith
      small Filling = omega arith
      small Sending = omega arith
      small Call = omega arith
      small Armed = omega arith
      small Deaf = omega arith
      small Asking = omega arith
      small Named = omega arith
      small Reopened = omega arith
      small Telling = omega arith

  written_file : (k : Kind) → kind_at p s.pointer ≡ k → (b : ℕ)
      → (file_fits p (written_as p k s.regs s.pointer b).file ≡ true) × (length (written_as p k s.regs s.pointer b).file ≡ 128)
  unfolding written_as
  written_file k e b = go (stored k) refl
    where
      n : ℕ
      n = s.pointer

      file : List ℕ
      file = s.regs.file

      u : ℕ
      u = kept_in p n (kept_as p k b)

      entry : stored k ≡ true → (m : ℕ) → m < 128 → fitting_at p m (get_or (set file n u) m 0) ≡ true
      entry t m h =
          ap (λ (v : ℕ). fitting_at p m v) (load_set file n u m (omega (arith, g.full, g.sound.pointer_small))) ∙ pick (eqb m n) refl
        where
          pick : (q : Bool) → eqb m n ≡ q → fitting_at p m (cond q u (get_or file m 0)) ≡ true
          pick true z = ap (λ (j : ℕ). fitting_at p j u) (eqb-true m n z) ∙ kept_fits_at p n k e b t
          pick false z = fits_entry p file g.sound.file_fits_lem m h

      go : (t : Bool) → stored k ≡ t
          → (file_fits p (cond t (set file n u) file) ≡ true) × (length (cond t (set file n u) file) ≡ 128)
      go true t = (entries_fit p (set file n u) (entry t), simp length-set g.full)
      go false t = (g.sound.file_fits_lem, g.full)

  pub fill_keeps : (b : ℕ) → WellFormed p (byte_in p Filling s b).after
  unfolding byte_in written_as
  fill_keeps b = record {
    sound = record {
      pointer_small = known_small p (next_in p s.mode s.pointer) (next_known p ok s.mode s.pointer g.sound.pointer_small g.sound.pointer_known);
      pointer_known = next_known p ok s.mode s.pointer g.sound.pointer_small g.sound.pointer_known;
      mode_small = g.sound.mode_small;
      bus_small = omega arith;
      choice_small = g.sound.choice_small;
      id_small = g.sound.id_small;
      place_small = g.sound.place_small;
      within = map_within p.width _ _;
      file_fits_lem = (written_file (kind_at p s.pointer) refl b).0;
      right = kept_written p s.regs s.interrupt g.sound.right ok.mapped g.full s.pointer g.sound.pointer_small b;
    };
    full = (written_file (kind_at p s.pointer) refl b).1;
  }

  pub fetch_keeps : (acknowledged : Bool) → WellFormed p (fetch_in p Sending s acknowledged).after
  unfolding fetch_in fetched
  fetch_keeps true = record {
    sound = record {
      pointer_small = known_small p (next_in p s.mode s.pointer) (next_known p ok s.mode s.pointer g.sound.pointer_small g.sound.pointer_known);
      pointer_known = next_known p ok s.mode s.pointer g.sound.pointer_small g.sound.pointer_known;
      mode_small = g.sound.mode_small;
      bus_small = omega arith;
      choice_small = g.sound.choice_small;
      id_small = g.sound.id_small;
      place_small = g.sound.place_small;
      within = map_within p.width _ _;
      file_fits_lem = g.sound.file_fits_lem;
      right = kept_fetched p s.regs s.interrupt g.sound.right s.pointer;
    };
    full = g.full;
  }
  fetch_keeps false = record {
    sound = record {
      pointer_small = g.sound.pointer_small;
      pointer_known = g.sound.pointer_known;
      mode_small = g.sound.mode_small;
      bus_small = omega arith;
      choice_small = g.sound.choice_small;
      id_small = g.sound.id_small;
      place_small = g.sound.place_small;
      within = map_within p.width _ _;
      file_fits_lem = g.sound.file_fits_lem;
      right = kept_fetched p s.regs s.interrupt g.sound.right s.pointer;
    };
    full = g.full;
  }

  reset_keeps : WellFormed p (resetted p s)
  unfolding resetted
  reset_keeps = record {
    sound = record {
      pointer_small = omega arith;
      pointer_known = ok.first_known_lem;
      mode_small = omega arith;
      bus_small = omega arith;
      choice_small = g.sound.choice_small;
      id_small = g.sound.id_small;
      place_small = omega arith;
      within = map_within p.width _ _;
      file_fits_lem = ok.defaults_fit;
      right = kept_reset p s.regs ok.mapped;
    };
    full = defaults_full p;
  }

  level_keeps : (new : ℕ) → WellFormed p (step p s (Levels new)).after
  unfolding step levelled
  level_keeps new = record {
    sound = record {
      pointer_small = g.sound.pointer_small;
      pointer_known = g.sound.pointer_known;
      mode_small = g.sound.mode_small;
      bus_small = g.sound.bus_small;
      choice_small = g.sound.choice_small;
      id_small = g.sound.id_small;
      place_small = g.sound.place_small;
      within = map_within p.width _ _;
      file_fits_lem = g.sound.file_fits_lem;
      right = kept_levelled p s.regs s.interrupt g.sound.right new;
    };
    full = g.full;
  }

  -- the place of the Device ID's next byte
  pub place_keeps : (x : ℕ) → x < 3 → WellFormed p (at_place s x)
  place_keeps x h = record {
    sound = record {
      pointer_small = g.sound.pointer_small;
      pointer_known = g.sound.pointer_known;
      mode_small = g.sound.mode_small;
      bus_small = g.sound.bus_small;
      choice_small = g.sound.choice_small;
      id_small = g.sound.id_small;
      place_small = h;
      within = g.sound.within;
      file_fits_lem = g.sound.file_fits_lem;
      right = g.sound.right;
    };
    full = g.full;
  }

  -- the telling begins at the first byte
  to_telling : WellFormed p (goes (at_place s 0) Telling)
  to_telling = record {
    sound = record {
      pointer_small = g.sound.pointer_small;
      pointer_known = g.sound.pointer_known;
      mode_small = g.sound.mode_small;
      bus_small = omega arith;
      choice_small = g.sound.choice_small;
      id_small = g.sound.id_small;
      place_small = omega arith;
      within = g.sound.within;
      file_fits_lem = g.sound.file_fits_lem;
      right = g.sound.right;
    };
    full = g.full;
  }

  -- a command that is not reserved
  pub point_keeps : (b : ℕ) → (r : Bool) → reserved p (b % 128) ≡ r
      → WellFormed p (cond r (out Nak (goes s Deaf)) (out Ack (state s.regs s.interrupt (b % 128) (b / 128 % 2) (number Filling) s.choice s.id))).after
  point_keeps b true e = to Deaf
  point_keeps b false e = record {
    sound = record {
      pointer_small = known_small p (b % 128) e;
      pointer_known = e;
      mode_small = mod-lt (b / 128) (omega arith);
      bus_small = omega arith;
      choice_small = g.sound.choice_small;
      id_small = g.sound.id_small;
      place_small = g.sound.place_small;
      within = g.sound.within;
      file_fits_lem = g.sound.file_fits_lem;
      right = g.sound.right;
    };
    full = g.full;
  }

  abbrev Kept : Outcome → Type 0
  Kept o = WellFormed p o.after

  address_keeps : (b : ℕ) → Kept (addressed s b)
  address_keeps b =
      either_arm Kept (eqb b (address_byte s)) (to Chosen)
      (either_arm Kept (eqb b (address_byte s + 1)) (to Sending) (either_arm Kept (eqb b 0x00) (to Call) (either_arm Kept (eqb b 0xf8) (to Asking) (to Deaf))))

  byte_keeps : (k : Bus) (b : ℕ) → WellFormed p (byte_in p k s b).after
  unfolding byte_in
  byte_keeps Idle b = g
  byte_keeps Opened b = address_keeps b
  byte_keeps Chosen b = point_keeps b (reserved p (b % 128)) refl
  byte_keeps Filling b = fill_keeps b
  byte_keeps Sending b = to Deaf
  byte_keeps Call b = either_arm Kept (eqb b 0x06) (to Armed) (to Deaf)
  byte_keeps Armed b = to Deaf
  byte_keeps Deaf b = g
  byte_keeps Asking b = either_arm Kept (ours s b) (to Named) (to Deaf)
  byte_keeps Named b = to Deaf
  byte_keeps Reopened b = either_arm Kept (eqb b 0xf9) to_telling (address_keeps b)
  byte_keeps Telling b = to Deaf

  sent_keeps : (k : Bus) (acknowledged : Bool) → WellFormed p (fetch_in p k s acknowledged).after
  unfolding fetch_in
  sent_keeps Sending acknowledged = fetch_keeps acknowledged
  sent_keeps Idle acknowledged = g
  sent_keeps Opened acknowledged = g
  sent_keeps Chosen acknowledged = g
  sent_keeps Filling acknowledged = g
  sent_keeps Call acknowledged = g
  sent_keeps Armed acknowledged = g
  sent_keeps Deaf acknowledged = g
  sent_keeps Asking acknowledged = g
  sent_keeps Named acknowledged = g
  sent_keeps Reopened acknowledged = g
  sent_keeps Telling true = place_keeps (next_place s.id.place) (next_small s.id.place)
  sent_keeps Telling false = to Deaf

  stop_keeps : (armed : Bool) → WellFormed p (cond armed (resetted p s) (goes s Idle))
  stop_keeps true = reset_keeps
  stop_keeps false = to Idle

  pub step_keeps : (e : Event) → WellFormed p (step p s e).after
  unfolding step
  step_keeps Start = to (start_in (bus_at s.bus))
  step_keeps Stop = stop_keeps (eqb s.bus (number Armed))
  step_keeps HardwareReset = reset_keeps
  step_keeps (ByteSent b) = byte_keeps (bus_at s.bus) b
  step_keeps (ByteFetched acknowledged) = sent_keeps (bus_at s.bus) acknowledged
  step_keeps (Levels new) = level_keeps new

  -- refused or not
  pub stepped_keeps : (kind arg : ℕ) → WellFormed p (stepped p s kind arg).after
  unfolding stepped
  stepped_keeps kind arg = either_arm Kept (eqb (refusal p s kind arg) 0) (step_keeps (event_of kind arg)) g

-- ---- power-on, and runs from it
pub power_on_fits : (p : Part) → Lawful p → (choice levels id : ℕ) → choice < 4 → levels < 2 ^ p.width → id < 2 ^ 24 → WellFormed p (power_on p choice levels id)
unfolding power_on
power_on_fits p ok choice levels id hc hl hi = record {
  sound = record {
    pointer_small = omega arith;
    pointer_known = ok.first_known_lem;
    mode_small = omega arith;
    bus_small = omega arith;
    choice_small = hc;
    id_small = hi;
    place_small = omega arith;
    within = small;
    file_fits_lem = ok.defaults_fit;
    right = kept_reset p (core [] levelled_at) ok.mapped ∙ ap (worked_out p) (same-core refl (sym (reset_map p.width levelled_at small)));
  };
  full = defaults_full p;
}
  where
    levelled_at : Sets
    levelled_at = record { level = levels; reference = levels; held = 0; edge = 0 }

    small : Within p.width levelled_at
    small = record { level_small = hl; reference_small = hl; held_small = pow_pos p.width; edge_small = pow_pos p.width }

pub run_keeps : (p : Part) → Lawful p → (s : State) → WellFormed p s → (es : List Asked) → WellFormed p (after p s es)
unfolding after
run_keeps p ok s g [] = g
run_keeps p ok s g (e ∷ es) = run_keeps p ok (stepped p s e.kind e.arg).after (stepped_keeps p ok s g e.kind e.arg) es

-- from power-on, after any list of events, no image is refused
pub never_broken : (p : Part) → Lawful p → (choice levels id : ℕ) → choice < 4 → levels < 2 ^ p.width → id < 2 ^ 24 → (es : List Asked)
    → image_fits p (after p (power_on p choice levels id) es) ≡ true
never_broken p ok choice levels id hc hl hi es =
    image_of p (after p (power_on p choice levels id) es) (run_keeps p ok (power_on p choice levels id) (power_on_fits p ok choice levels id hc hl hi) es).sound

-- the status set and the line are what the rules work out: after every step from every well-formed state
pub kept_right : (p : Part) → Lawful p → (s : State) → WellFormed p s → (kind arg : ℕ) → (stepped p s kind arg).after.interrupt ≡ worked_out p (stepped p s kind arg).after.regs
kept_right p ok s g kind arg = (stepped_keeps p ok s g kind arg).sound.right

-- and from power-on, after any list of events: the line is INT's then
pub line_right_from_power_on : (p : Part) → Lawful p → (choice levels id : ℕ) → choice < 4 → levels < 2 ^ p.width → id < 2 ^ 24 → (es : List Asked)
    → eqb (after p (power_on p choice levels id) es).interrupt.line 0 ≡ int_asserted p (after p (power_on p choice levels id) es).regs
line_right_from_power_on p ok choice levels id hc hl hi es =
    let s = after p (power_on p choice levels id) es in
    line_right p s.regs s.interrupt (run_keeps p ok (power_on p choice levels id) (power_on_fits p ok choice levels id hc hl hi) es).sound.right
