-- A step on packed words is the rules' step, refused or not; refused, the words are the same, since packed words are known by their state. Assumes nothing.
use mathlib.Core.Path.{◌≡◌, refl, sym, ap, ◌∙◌}
use mathlib.Core.Bool.{Bool, true, false, cond}
use mathlib.Core.List.{List}
use Prim.Native.Nat.{ℕ, zero, suc, ◌+◌, ◌-◌, ◌/◌, ◌%◌, ◌^◌, ◌<◌, ◌≤◌}
use native.Mathlib.Omega.{arith}
use borrow.Author.Tests.{eq-eqb, ne_eqb, lt-ltb, ltb-true, ltb-false}
use lib.Dec.{eqb, ltb, leb}
use lib.ListN.{get_or}
use lib.Seq.{ext_get_or}
use Rattle.bits.proofs.Decide.{clash}
use Rattle.pins.specs.declared.Sets.{Sets}
use Rattle.map.specs.Map.{Part, reserved, part_of}
use Rattle.registers.specs.Registers.{Core}
use Rattle.device_rules.specs.Device.{State, Bus, Outcome, number, bus_at, state, out, goes, address_byte, ours, addressed, byte_in, fetch_in, Event, step}
use Rattle.device_rules.specs.Device.Bus.{Idle, Opened, Chosen, Filling, Sending, Call, Armed, Deaf, Asking, Named, Reopened, Telling}
use Rattle.device_rules.specs.Device.Event.{Start, Stop, HardwareReset, ByteSent, ByteFetched, Levels}
use Rattle.device_rules.specs.declared.Answer.{Answer}
use Rattle.device_rules.specs.declared.Answer.TheVariants.{Nothing, Ack, Nak, Byte, Refused}
use Rattle.device_rules.specs.Refusals.{event_of, sets_fit, image_fits, argument_fits, refusal, stepped}
use Rattle.device_rules.proofs.Images.{fits_of, identity_fits_lem}
use Rattle.words.specs.Words.{sets_in}
use Rattle.words.proofs.Sound.{sound}
use Rattle.words.proofs.Holding.{within}
use Rattle.words.proofs.Fits.{same_word_of, file_of_fits}
use Rattle.words_rows.specs.Rows.{row_at}
use Rattle.words_rows.proofs.Taken.{known_small, row_zero}
use Rattle.words_state.specs.Packed.{id_in, state_in, Packed, Leaves, Steps, Bounded}

-- ---- an image of packed words fits
module _ (c : ℕ) (w : List ℕ) (k : Packed c w) where
  pub image_fits_lem : image_fits (part_of c) (state_in (part_of c) w) ≡ true
  unfolding image_fits sets_fit
  image_fits_lem =
      let d = within (part_of c) (sound c) w k.fit in
      simp (
        k.pointer_known,
        lt-ltb (get_or w 24 0) 2 k.mode_small,
        lt-ltb (get_or w 22 0) 12 k.bus_small,
        lt-ltb (get_or w 23 0) 4 k.choice_small,
        identity_fits_lem (id_in w) k.id_small k.place_small,
        lt-ltb (get_or w 0 0) (2 ^ (part_of c).width) d.level_small,
        lt-ltb (get_or w 1 0) (2 ^ (part_of c).width) d.reference_small,
        lt-ltb (get_or w 2 0) (2 ^ (part_of c).width) d.held_small,
        lt-ltb (get_or w 3 0) (2 ^ (part_of c).width) d.edge_small,
        file_of_fits (part_of c) (sound c) w k.fit,
        fits_of (part_of c) (state_in (part_of c) w) k.right,
      )

  module _ (kind arg : ℕ) where
    -- what is judged, by the kind's number
    pub taken : (n : ℕ) → kind ≡ n → leb n 5 ≡ true → argument_fits (part_of c) n arg ≡ true
        → step (part_of c) (state_in (part_of c) w) (event_of n arg) ≡ stepped (part_of c) (state_in (part_of c) w) kind arg
    unfolding stepped refusal
    taken n e h a = rw e (simp (image_fits_lem, h, a))

    pub wrong_argument : (n : ℕ) → kind ≡ n → leb n 5 ≡ true → argument_fits (part_of c) n arg ≡ false
        → out (Refused 2) (state_in (part_of c) w) ≡ stepped (part_of c) (state_in (part_of c) w) kind arg
    unfolding stepped refusal
    wrong_argument n e h a = rw e (simp (image_fits_lem, h, a))

    pub wrong_kind : leb kind 5 ≡ false → out (Refused 1) (state_in (part_of c) w) ≡ stepped (part_of c) (state_in (part_of c) w) kind arg
    unfolding stepped refusal
    wrong_kind h = simp (image_fits_lem, h)

-- a kind that is none of the six
pub none_of_six : (r : ℕ) → (r ≡ 0 → ⊥) → (r ≡ 1 → ⊥) → (r ≡ 2 → ⊥) → (r ≡ 3 → ⊥) → (r ≡ 4 → ⊥) → (r ≡ 5 → ⊥) → 5 < r
none_of_six zero a b c d e f = absurd (a refl)
none_of_six (suc zero) a b c d e f = absurd (b refl)
none_of_six (suc (suc zero)) a b c d e f = absurd (c refl)
none_of_six (suc (suc (suc zero))) a b c d e f = absurd (d refl)
none_of_six (suc (suc (suc (suc zero)))) a b c d e f = absurd (e refl)
none_of_six (suc (suc (suc (suc (suc zero))))) a b c d e f = absurd (f refl)
none_of_six (suc (suc (suc (suc (suc (suc r)))))) a b c d e f = past r
  where
    past : (r : ℕ) → 5 < suc (suc (suc (suc (suc (suc r)))))
    past r = omega arith

-- ---- no event is answered by a refusal
abbrev answered : Answer → Bool
answered Nothing = true
answered Ack = true
answered Nak = true
answered (Byte b) = true
answered (Refused n) = false

record Plain (o : Outcome) : Type 0 where
  pub is : answered o.answer ≡ true

never : (o : Outcome) (n : ℕ) → Plain o → o.answer ≡ Refused n → ⊥
never o n q e = clash (answered o.answer) q.is (ap answered e)

module _ (p : Part) (s : State) where
  either : (t : Bool) (x y : Outcome) → Plain x → Plain y → Plain (cond t x y)
  either true x y p q = p
  either false x y p q = q

  plain_address : (v : ℕ) → Plain (addressed s v)
  plain_address v =
      either (eqb v (address_byte s)) _ _ (record { is = refl })
      (either (eqb v (address_byte s + 1)) _ _ (record { is = refl })
      (either (eqb v 0x00) _ _ (record { is = refl }) (either (eqb v 0xf8) _ _ (record { is = refl }) (record { is = refl }))))

  plain_byte : (b : Bus) (v : ℕ) → Plain (byte_in p b s v)
  unfolding byte_in
  plain_byte Opened v = plain_address v
  plain_byte Chosen v =
      either (reserved p (v % 128)) (out Nak (goes s Deaf)) (out Ack (state s.regs s.interrupt (v % 128) (v / 128 % 2) (number Filling) s.choice s.id)) (record { is = refl }) (record { is = refl })
  plain_byte Call v = either (eqb v 0x06) (out Ack (goes s Armed)) (out Nak (goes s Deaf)) (record { is = refl }) (record { is = refl })
  plain_byte Filling v = record { is = refl }
  plain_byte Armed v = record { is = refl }
  plain_byte Sending v = record { is = refl }
  plain_byte Idle v = record { is = refl }
  plain_byte Deaf v = record { is = refl }
  plain_byte Asking v = either (ours s v) _ _ (record { is = refl }) (record { is = refl })
  plain_byte Named v = record { is = refl }
  plain_byte Reopened v = either (eqb v 0xf9) _ _ (record { is = refl }) (plain_address v)
  plain_byte Telling v = record { is = refl }

  plain_fetch : (b : Bus) (acknowledged : Bool) → Plain (fetch_in p b s acknowledged)
  unfolding fetch_in
  plain_fetch Sending a = record { is = refl }
  plain_fetch Idle a = record { is = refl }
  plain_fetch Opened a = record { is = refl }
  plain_fetch Chosen a = record { is = refl }
  plain_fetch Filling a = record { is = refl }
  plain_fetch Call a = record { is = refl }
  plain_fetch Armed a = record { is = refl }
  plain_fetch Deaf a = record { is = refl }
  plain_fetch Asking a = record { is = refl }
  plain_fetch Named a = record { is = refl }
  plain_fetch Reopened a = record { is = refl }
  plain_fetch Telling a = record { is = refl }

  plain : (e : Event) → Plain (step p s e)
  unfolding step
  plain Start = record { is = refl }
  plain Stop = record { is = refl }
  plain HardwareReset = record { is = refl }
  plain (ByteSent b) = plain_byte (bus_at s.bus) b
  plain (ByteFetched a) = plain_fetch (bus_at s.bus) a
  plain (Levels new) = record { is = refl }

  -- refused, the state is as given
  refused_same : (kind arg n : ℕ) → (stepped p s kind arg).answer ≡ Refused n → (stepped p s kind arg).after ≡ s
  unfolding stepped
  refused_same kind arg n e = go (eqb (refusal p s kind arg) 0) e
    where
      go : (t : Bool) → (cond t (step p s (event_of kind arg)) (out (Refused (refusal p s kind arg)) s)).answer ≡ Refused n
          → (cond t (step p s (event_of kind arg)) (out (Refused (refusal p s kind arg)) s)).after ≡ s
      go true q = absurd (never (step p s (event_of kind arg)) n (plain (event_of kind arg)) q)
      go false q = refl

-- ---- packed words are known by their state
sets_word : (w w' : List ℕ) → sets_in w ≡ sets_in w' → (s : ℕ) → s < 4 → get_or w s 0 ≡ get_or w' s 0
sets_word w w' e zero h = ap (λ (x : Sets). x.level) e
sets_word w w' e (suc zero) h = ap (λ (x : Sets). x.reference) e
sets_word w w' e (suc (suc zero)) h = ap (λ (x : Sets). x.held) e
sets_word w w' e (suc (suc (suc zero))) h = ap (λ (x : Sets). x.edge) e
sets_word w w' e (suc (suc (suc (suc s)))) h = absurd (omega arith)

last_words : (P : ℕ → Type 0) → P 19 → P 20 → P 21 → P 22 → P 23 → P 24 → P 25 → P 26 → P 27 → (n : ℕ) → n < 9 → P (n + 19)
last_words P a b c d e f g h i zero l = a
last_words P a b c d e f g h i (suc zero) l = b
last_words P a b c d e f g h i (suc (suc zero)) l = c
last_words P a b c d e f g h i (suc (suc (suc zero))) l = d
last_words P a b c d e f g h i (suc (suc (suc (suc zero)))) l = e
last_words P a b c d e f g h i (suc (suc (suc (suc (suc zero))))) l = f
last_words P a b c d e f g h i (suc (suc (suc (suc (suc (suc zero)))))) l = g
last_words P a b c d e f g h i (suc (suc (suc (suc (suc (suc (suc zero))))))) l = h
last_words P a b c d e f g h i (suc (suc (suc (suc (suc (suc (suc (suc zero)))))))) l = i
last_words P a b c d e f g h i (suc (suc (suc (suc (suc (suc (suc (suc (suc n))))))))) l = absurd (omega arith)

pub same_packed : (c : ℕ) (w w' : List ℕ) → Packed c w → Packed c w' → state_in (part_of c) w ≡ state_in (part_of c) w' → w ≡ w'
same_packed c w w' k k' e = ext_get_or 0 w w' (k.fit.full ∙ sym k'.fit.full) (λ s h. word s (omega (arith, k.fit.full)) (ltb s 4) refl (ltb s 19) refl)
  where
    core_same : (state_in (part_of c) w).regs ≡ (state_in (part_of c) w').regs
    core_same = ap (λ (s : State). s.regs) e

    word : (s : ℕ) → s < 28 → (a : Bool) → ltb s 4 ≡ a → (b : Bool) → ltb s 19 ≡ b → get_or w s 0 ≡ get_or w' s 0
    word s h true q b r = sets_word w w' (ap (λ (x : Core). x.sets) core_same) s (ltb-true s 4 q)
    word s h false q true r =
        same_word_of (part_of c) (sound c) w w' k.fit k'.fit (ap (λ (x : Core). x.file) core_same) s (omega (arith, ltb-false s 4 q)) (ltb-true s 19 r)
    word s h false q false r =
        let past : 19 ≤ s = ltb-false s 19 r in
        let z : s - 19 + 19 ≡ s = omega arith in
        rw z at (last_words (λ s. get_or w s 0 ≡ get_or w' s 0) (ap (λ (s : State). s.interrupt.status) e) (ap (λ (s : State). s.interrupt.line) e) (ap (λ (s : State). s.pointer) e) (ap (λ (s : State). s.bus) e)
        (ap (λ (s : State). s.choice) e) (ap (λ (s : State). s.mode) e) (ap (λ (s : State). s.id.number) e) (ap (λ (s : State). s.id.place) e) (k.part_is ∙ sym k'.part_is) (s - 19) (omega arith))

-- ---- a step, judged
module _ (c : ℕ) (w : List ℕ) (kind arg : ℕ) where
  pub no_image : (Packed c w → ⊥) → Steps c w w kind arg (Refused 3)
  no_image z = record { taken = λ k. absurd (z k); broken = λ y. refl; refused = λ n e. refl }

  pub image : {w' : List ℕ} {a : Answer} → Packed c w → Leaves c w' a (stepped (part_of c) (state_in (part_of c) w) kind arg) → Steps c w w' kind arg a
  image {w'} {a} k l = record {
    taken = λ k. l;
    broken = λ z. absurd (z k);
    refused = λ n e. same_packed c w' w l.packed k
        (ap (λ (o : Outcome). o.after) l.outcome
        ∙ refused_same (part_of c) (state_in (part_of c) w) kind arg n (sym (ap (λ (o : Outcome). o.answer) l.outcome) ∙ e));
  }

-- ---- the image test and the pointer's row together
pub bounded_of : (c : ℕ) (w : List ℕ) → Packed c w → Bounded c w
bounded_of c w k = record {
  fit = k.fit;
  right = k.right;
  pointer_small = known_small (row_at (part_of c) (get_or w 21 0)) c (get_or w 21 0) k.pointer_known refl;
  mode_small = k.mode_small;
  bus_small = k.bus_small;
  choice_small = k.choice_small;
  id_small = k.id_small;
  place_small = k.place_small;
  part_is = k.part_is;
}

module _ (c : ℕ) (hc : c < 2) (w : List ℕ) (b : Bounded c w) (row : ℕ) (e : row ≡ row_at (part_of c) (get_or w 21 0)) where
  pub packed_of : (row ≡ 0 → ⊥) → Packed c w
  packed_of z = record {
    known_part = hc;
    fit = b.fit;
    right = b.right;
    pointer_known = sym (row_zero row c (get_or w 21 0) b.pointer_small e) ∙ ne_eqb row 0 z;
    mode_small = b.mode_small;
    bus_small = b.bus_small;
    choice_small = b.choice_small;
    id_small = b.id_small;
    place_small = b.place_small;
    part_is = b.part_is;
  }

  pub no_row : row ≡ 0 → Packed c w → ⊥
  no_row z k = clash (eqb row 0) (eq-eqb row 0 z) (row_zero row c (get_or w 21 0) b.pointer_small e ∙ k.pointer_known)
