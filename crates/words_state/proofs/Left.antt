-- Packed words stay packed when their registers and pins, their pointer or their bus state change, and hold the state so changed. Assumes nothing.
use mathlib.Core.Path.{◌≡◌, refl, sym, ap, ◌∙◌}
use mathlib.Core.Bool.{false}
use mathlib.Core.List.{List}
use Prim.Native.Nat.{ℕ, ◌%◌, ◌<◌}
use native.Mathlib.Nat.{mod-lt}
use native.Mathlib.Omega.{arith}
use lib.Dec.{eqb}
use lib.ListN.{get_or, set, length-set}
use lib.Seq.{get_or-set_same, get_or-set_other}
use Rattle.bits.specs.Bits.{bit}
use Rattle.pins.proofs.AllPins.{same}
use Rattle.map.specs.Map.{reserved, part_of}
use Rattle.registers.specs.Registers.{Core}
use Rattle.registers.specs.Interrupt.{Interrupt, worked_out}
use Rattle.registers.proofs.Kept.{same_interrupt}
use Rattle.registers.proofs.Writing.{same as same-core}
use Rattle.device_rules.specs.Device.{State, Outcome, bus_at, state, out, at_place, byte_in, step}
use Rattle.device_rules.specs.Device.Event.{ByteSent}
use Rattle.device_rules.specs.declared.Answer.{Answer}
use Rattle.device_rules.proofs.Stepping.{same_state, same_identity, at_bus}
use Rattle.words.specs.Words.{core_in, interrupt_in, with_interrupt, Fit, Holds}
use Rattle.words.proofs.Sound.{sound}
use Rattle.words.proofs.Writing.{file_beside}
use Rattle.words_rows.specs.Rows.{row_at}
use Rattle.words_rows.proofs.Taken.{row_zero}
use Rattle.words_state.specs.Packed.{id_in, state_in, Packed, Becomes, Leaves}

-- a word below the Device ID's
id_past : (w : List ℕ) (s x : ℕ) → s < 25 → id_in (set w s x) ≡ id_in w
id_past w s x h = same_identity (get_or-set_other w s 25 x 0 (λ e. omega (arith, e))) (get_or-set_other w s 26 x 0 (λ e. omega (arith, e)))

-- ---- a word past those of registers and pins
module _ (c : ℕ) (w : List ℕ) (s x : ℕ) (past : 18 < s) where
  past_other : (t : ℕ) → t < 19 → get_or (set w s x) t 0 ≡ get_or w t 0
  past_other t h = get_or-set_other w s t x 0 (λ e. omega (arith, e))

  pub core_past : core_in (part_of c) (set w s x) ≡ core_in (part_of c) w
  core_past =
      same-core (file_beside (part_of c) (sound c) w (set w s x) (λ t h l. past_other t l))
      (same (past_other 0 (omega arith)) (past_other 1 (omega arith)) (past_other 2 (omega arith)) (past_other 3 (omega arith)))

  pub fit_past : Fit (part_of c) w → Fit (part_of c) (set w s x)
  fit_past fit = record {
    full = simp length-set fit.full;
    clear = λ t i h e. ap (λ (y : ℕ). bit y i) (past_other t h) ∙ fit.clear t i h e;
  }

module _ (c : ℕ) (w : List ℕ) (s x : ℕ) (past : 20 < s) where
  -- what is kept of the interrupt stays, and stays right
  interrupt_past : interrupt_in (set w s x) ≡ interrupt_in w
  interrupt_past = same_interrupt (get_or-set_other w s 19 x 0 (λ e. omega (arith, e))) (get_or-set_other w s 20 x 0 (λ e. omega (arith, e)))

  right_past : interrupt_in w ≡ worked_out (part_of c) (core_in (part_of c) w) → interrupt_in (set w s x) ≡ worked_out (part_of c) (core_in (part_of c) (set w s x))
  right_past right = interrupt_past ∙ right ∙ ap (worked_out (part_of c)) (sym (core_past c w s x (omega arith)))

module _ (c : ℕ) (w : List ℕ) (k : Packed c w) where
  -- registers and pins change
  pub packed_becomes : {u : List ℕ} {after : Core} → Becomes c w u after → Packed c u
  packed_becomes h = record {
    known_part = k.known_part;
    fit = h.fit;
    right = h.right ∙ ap (worked_out (part_of c)) (sym h.core);
    pointer_known = ap (reserved (part_of c)) (h.rest 21 (omega arith)) ∙ k.pointer_known;
    mode_small = rw (h.rest 24 (omega arith)) k.mode_small;
    bus_small = rw (h.rest 22 (omega arith)) k.bus_small;
    choice_small = rw (h.rest 23 (omega arith)) k.choice_small;
    id_small = rw (h.rest 25 (omega arith)) k.id_small;
    place_small = rw (h.rest 26 (omega arith)) k.place_small;
    part_is = h.rest 27 (omega arith) ∙ k.part_is;
  }

  -- the pointer changes
  packed_pointer : (x : ℕ) → reserved (part_of c) x ≡ false → Packed c (set w 21 x)
  packed_pointer x e = record {
    known_part = k.known_part;
    fit = fit_past c w 21 x (omega arith) k.fit;
    right = right_past c w 21 x (omega arith) k.right;
    pointer_known = ap (reserved (part_of c)) (get_or-set_same w 21 x 0 (omega (arith, k.fit.full))) ∙ e;
    mode_small = rw (get_or-set_other w 21 24 x 0 (λ z. omega (arith, z))) k.mode_small;
    bus_small = rw (get_or-set_other w 21 22 x 0 (λ z. omega (arith, z))) k.bus_small;
    choice_small = rw (get_or-set_other w 21 23 x 0 (λ z. omega (arith, z))) k.choice_small;
    id_small = rw (get_or-set_other w 21 25 x 0 (λ z. omega (arith, z))) k.id_small;
    place_small = rw (get_or-set_other w 21 26 x 0 (λ z. omega (arith, z))) k.place_small;
    part_is = get_or-set_other w 21 27 x 0 (λ z. omega (arith, z)) ∙ k.part_is;
  }

  -- the mode changes
  packed_mode : (m : ℕ) → m < 2 → Packed c (set w 24 m)
  packed_mode m h = record {
    known_part = k.known_part;
    fit = fit_past c w 24 m (omega arith) k.fit;
    right = right_past c w 24 m (omega arith) k.right;
    pointer_known = ap (reserved (part_of c)) (get_or-set_other w 24 21 m 0 (λ z. omega (arith, z))) ∙ k.pointer_known;
    mode_small = rw (get_or-set_same w 24 m 0 (omega (arith, k.fit.full))) h;
    bus_small = rw (get_or-set_other w 24 22 m 0 (λ z. omega (arith, z))) k.bus_small;
    choice_small = rw (get_or-set_other w 24 23 m 0 (λ z. omega (arith, z))) k.choice_small;
    id_small = rw (get_or-set_other w 24 25 m 0 (λ z. omega (arith, z))) k.id_small;
    place_small = rw (get_or-set_other w 24 26 m 0 (λ z. omega (arith, z))) k.place_small;
    part_is = get_or-set_other w 24 27 m 0 (λ z. omega (arith, z)) ∙ k.part_is;
  }

  -- the bus state changes
  packed_bus : (b : ℕ) → b < 12 → Packed c (set w 22 b)
  packed_bus b h = record {
    known_part = k.known_part;
    fit = fit_past c w 22 b (omega arith) k.fit;
    right = right_past c w 22 b (omega arith) k.right;
    pointer_known = ap (reserved (part_of c)) (get_or-set_other w 22 21 b 0 (λ z. omega (arith, z))) ∙ k.pointer_known;
    mode_small = rw (get_or-set_other w 22 24 b 0 (λ z. omega (arith, z))) k.mode_small;
    bus_small = rw (get_or-set_same w 22 b 0 (omega (arith, k.fit.full))) h;
    choice_small = rw (get_or-set_other w 22 23 b 0 (λ z. omega (arith, z))) k.choice_small;
    id_small = rw (get_or-set_other w 22 25 b 0 (λ z. omega (arith, z))) k.id_small;
    place_small = rw (get_or-set_other w 22 26 b 0 (λ z. omega (arith, z))) k.place_small;
    part_is = get_or-set_other w 22 27 b 0 (λ z. omega (arith, z)) ∙ k.part_is;
  }

  pub state_pointer : (x : ℕ) → state_in (part_of c) (set w 21 x) ≡ state (core_in (part_of c) w) (interrupt_in w) x (get_or w 24 0) (get_or w 22 0) (get_or w 23 0) (id_in w)
  state_pointer x =
      same_state (core_past c w 21 x (omega arith)) (interrupt_past c w 21 x (omega arith)) (get_or-set_same w 21 x 0 (omega (arith, k.fit.full)))
      (get_or-set_other w 21 24 x 0 (λ z. omega (arith, z))) (get_or-set_other w 21 22 x 0 (λ z. omega (arith, z))) (get_or-set_other w 21 23 x 0 (λ z. omega (arith, z))) (id_past w 21 x (omega arith))

  pub state_bus : (b : ℕ) → state_in (part_of c) (set w 22 b) ≡ state (core_in (part_of c) w) (interrupt_in w) (get_or w 21 0) (get_or w 24 0) b (get_or w 23 0) (id_in w)
  state_bus b =
      same_state (core_past c w 22 b (omega arith)) (interrupt_past c w 22 b (omega arith)) (get_or-set_other w 22 21 b 0 (λ z. omega (arith, z)))
      (get_or-set_other w 22 24 b 0 (λ z. omega (arith, z)))
      (get_or-set_same w 22 b 0 (omega (arith, k.fit.full))) (get_or-set_other w 22 23 b 0 (λ z. omega (arith, z))) (id_past w 22 b (omega arith))

  state_mode : (m : ℕ) → state_in (part_of c) (set w 24 m) ≡ state (core_in (part_of c) w) (interrupt_in w) (get_or w 21 0) m (get_or w 22 0) (get_or w 23 0) (id_in w)
  state_mode m =
      same_state (core_past c w 24 m (omega arith)) (interrupt_past c w 24 m (omega arith)) (get_or-set_other w 24 21 m 0 (λ z. omega (arith, z)))
      (get_or-set_same w 24 m 0 (omega (arith, k.fit.full))) (get_or-set_other w 24 22 m 0 (λ z. omega (arith, z))) (get_or-set_other w 24 23 m 0 (λ z. omega (arith, z))) (id_past w 24 m (omega arith))

  -- the place of the Device ID's next byte changes
  pub packed_place : (x : ℕ) → x < 3 → Packed c (set w 26 x)
  packed_place x h = record {
    known_part = k.known_part;
    fit = fit_past c w 26 x (omega arith) k.fit;
    right = right_past c w 26 x (omega arith) k.right;
    pointer_known = ap (reserved (part_of c)) (get_or-set_other w 26 21 x 0 (λ z. omega (arith, z))) ∙ k.pointer_known;
    mode_small = rw (get_or-set_other w 26 24 x 0 (λ z. omega (arith, z))) k.mode_small;
    bus_small = rw (get_or-set_other w 26 22 x 0 (λ z. omega (arith, z))) k.bus_small;
    choice_small = rw (get_or-set_other w 26 23 x 0 (λ z. omega (arith, z))) k.choice_small;
    id_small = rw (get_or-set_other w 26 25 x 0 (λ z. omega (arith, z))) k.id_small;
    place_small = rw (get_or-set_same w 26 x 0 (omega (arith, k.fit.full))) h;
    part_is = get_or-set_other w 26 27 x 0 (λ z. omega (arith, z)) ∙ k.part_is;
  }

  pub state_place : (x : ℕ) → state_in (part_of c) (set w 26 x) ≡ at_place (state_in (part_of c) w) x
  state_place x =
      same_state (core_past c w 26 x (omega arith)) (interrupt_past c w 26 x (omega arith)) (get_or-set_other w 26 21 x 0 (λ z. omega (arith, z)))
      (get_or-set_other w 26 24 x 0 (λ z. omega (arith, z))) (get_or-set_other w 26 22 x 0 (λ z. omega (arith, z))) (get_or-set_other w 26 23 x 0 (λ z. omega (arith, z)))
      (same_identity (get_or-set_other w 26 25 x 0 (λ z. omega (arith, z))) (get_or-set_same w 26 x 0 (omega (arith, k.fit.full))))

-- ---- registers and pins changed, and the interrupt with them
module _ (c : ℕ) (w u : List ℕ) {after : Core} (h : Holds (part_of c) w u after) where
  -- worked out anew
  pub rung : {v : List ℕ} → v ≡ with_interrupt u (worked_out (part_of c) (core_in (part_of c) u)) → Becomes c w v after
  rung e = rw e (record {
    core = core_past c u' 20 kept.line (omega arith) ∙ core_past c u 19 kept.status (omega arith) ∙ h.core;
    fit = fit_past c u' 20 kept.line (omega arith) (fit_past c u 19 kept.status (omega arith) h.fit);
    right = same_interrupt
        (get_or-set_other u' 20 19 kept.line 0 (λ z. omega (arith, z)) ∙ get_or-set_same u 19 kept.status 0 (omega (arith, h.fit.full)))
        (get_or-set_same u' 20 kept.line 0 (simp length-set (omega (arith, h.fit.full))))
        ∙ ap (worked_out (part_of c)) h.core;
    rest = λ s l. get_or-set_other u' 20 s kept.line 0 (λ z. omega (arith, z)) ∙ get_or-set_other u 19 s kept.status 0 (λ z. omega (arith, z)) ∙ h.rest s (omega arith);
  })
    where
      kept : Interrupt
      kept = worked_out (part_of c) (core_in (part_of c) u)

      u' : List ℕ
      u' = set u 19 kept.status

  -- untouched, where no status bit changed
  pub unrung : interrupt_in w ≡ worked_out (part_of c) after → Becomes c w u after
  unrung e = record {
    core = h.core;
    fit = h.fit;
    right = same_interrupt (h.rest 19 (omega arith)) (h.rest 20 (omega arith)) ∙ e;
    rest = λ s l. h.rest s (omega arith);
  }

-- ---- what is left
module _ (c : ℕ) (w : List ℕ) (k : Packed c w) (a : Answer) where
  pub left_same : {o : Outcome} → out a (state_in (part_of c) w) ≡ o → Leaves c w a o
  left_same q = record { outcome = q; packed = k }

  pub left_bus : (b : ℕ) → b < 12 → {o : Outcome} → out a (state (core_in (part_of c) w) (interrupt_in w) (get_or w 21 0) (get_or w 24 0) b (get_or w 23 0) (id_in w)) ≡ o → Leaves c (set w 22 b) a o
  left_bus b h q = record { outcome = ap (out a) (state_bus c w k b) ∙ q; packed = packed_bus c w k b h }

  pub left_pointer : (x : ℕ) → reserved (part_of c) x ≡ false → {o : Outcome} → out a (state (core_in (part_of c) w) (interrupt_in w) x (get_or w 24 0) (get_or w 22 0) (get_or w 23 0) (id_in w)) ≡ o → Leaves c (set w 21 x) a o
  left_pointer x h q = record { outcome = ap (out a) (state_pointer c w k x) ∙ q; packed = packed_pointer c w k x h }

  -- the answer and the words as a function has them
  pub went : (b : ℕ) → b < 12 → {a' : Answer} {w' : List ℕ} {o : Outcome} → a' ≡ a → w' ≡ set w 22 b
      → out a (state (core_in (part_of c) w) (interrupt_in w) (get_or w 21 0) (get_or w 24 0) b (get_or w 23 0) (id_in w)) ≡ o → Leaves c w' a' o
  went b h ea ew q = rw (ea, ew) (left_bus b h q)

  -- the Device ID is told on
  pub told : (x : ℕ) → x < 3 → {w' : List ℕ} {o : Outcome} → w' ≡ set w 26 x → out a (at_place (state_in (part_of c) w) x) ≡ o → Leaves c w' a o
  told x h ew q = rw ew (record { outcome = ap (out a) (state_place c w k x) ∙ q; packed = packed_place c w k x h })

-- the same after a change of registers and pins
module _ (c : ℕ) (w u : List ℕ) (k : Packed c w) (after : Core) (h : Becomes c w u after) (a : Answer) where
  -- what the rest of the state is then
  beside : (s : ℕ) → 20 < s → get_or u s 0 ≡ get_or w s 0
  beside = h.rest

  its_id : id_in u ≡ id_in w
  its_id = same_identity (h.rest 25 (omega arith)) (h.rest 26 (omega arith))

  pub holds_left : {o : Outcome} → out a (state after (worked_out (part_of c) after) (get_or w 21 0) (get_or w 24 0) (get_or w 22 0) (get_or w 23 0) (id_in w)) ≡ o → Leaves c u a o
  holds_left q =
      left_same c u (packed_becomes c w k h) a
      (ap (out a) (same_state h.core h.right (beside 21 (omega arith)) (beside 24 (omega arith)) (beside 22 (omega arith)) (beside 23 (omega arith)) its_id) ∙ q)

  pub holds_bus : (b : ℕ) → b < 12 → {o : Outcome} → out a (state after (worked_out (part_of c) after) (get_or w 21 0) (get_or w 24 0) b (get_or w 23 0) (id_in w)) ≡ o → Leaves c (set u 22 b) a o
  holds_bus b l q =
      left_bus c u (packed_becomes c w k h) a b l (ap (out a) (same_state h.core h.right (beside 21 (omega arith)) (beside 24 (omega arith)) refl (beside 23 (omega arith)) its_id) ∙ q)

  pub holds_pointer : (x : ℕ) → reserved (part_of c) x ≡ false → {o : Outcome} → out a (state after (worked_out (part_of c) after) x (get_or w 24 0) (get_or w 22 0) (get_or w 23 0) (id_in w)) ≡ o → Leaves c (set u 21 x) a o
  holds_pointer x l q =
      left_pointer c u (packed_becomes c w k h) a x l (ap (out a) (same_state h.core h.right refl (beside 24 (omega arith)) (beside 22 (omega arith)) (beside 23 (omega arith)) its_id) ∙ q)

pub chose : (c : ℕ) (w : List ℕ) → Packed c w → (a : Answer) (x m b : ℕ) → reserved (part_of c) x ≡ false → m < 2 → b < 12 → {a' : Answer} {w' : List ℕ} {o : Outcome}
    → a' ≡ a → w' ≡ set (set (set w 21 x) 24 m) 22 b → out a (state (core_in (part_of c) w) (interrupt_in w) x m b (get_or w 23 0) (id_in w)) ≡ o → Leaves c w' a' o
chose c w k a x m b e hm h ea ew q =
    let pointed = packed_pointer c w k x e in
    went c (set (set w 21 x) 24 m) (packed_mode c (set w 21 x) pointed m hm) a b h ea ew
    (ap (λ (s : State). out a (state s.regs s.interrupt s.pointer s.mode b s.choice s.id)) (state_mode c (set w 21 x) pointed m)
    ∙ ap (λ (s : State). out a (state s.regs s.interrupt s.pointer m b s.choice s.id)) (state_pointer c w k x) ∙ q)

-- ---- a command
pub command_row : (part row v : ℕ) → row ≡ row_at (part_of part) (v % 128) → eqb row 0 ≡ reserved (part_of part) (v % 128)
command_row part row v e = row_zero row part (v % 128) (mod-lt v (omega arith)) e

-- the rule of the bus state is the step's
pub in_bus_lem : (c : ℕ) (w : List ℕ) (v n : ℕ) {w' : List ℕ} {a : Answer} → get_or w 22 0 ≡ n → Leaves c w' a (byte_in (part_of c) (bus_at n) (state_in (part_of c) w) v)
    → Leaves c w' a (step (part_of c) (state_in (part_of c) w) (ByteSent v))
in_bus_lem c w v n e l = record { outcome = at_bus (part_of c) (state_in (part_of c) w) v n e l.outcome; packed = l.packed }

pub by_rule : {c : ℕ} {w : List ℕ} {a : Answer} {o o' : Outcome} → Leaves c w a o → o ≡ o' → Leaves c w a o'
by_rule l q = record { outcome = l.outcome ∙ q; packed = l.packed }
