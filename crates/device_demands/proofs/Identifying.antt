-- The Device ID is read in one transaction, any number of its bytes round and round, and nothing else changes: from any well-formed state of every lawful part, in any bus
-- state. As an address byte F9h is acknowledged after the repeated START alone. Assumes nothing.
use mathlib.Core.Path.{◌≡◌, refl, sym, ap, subst, ◌∙◌}
use mathlib.Core.Bool.{Bool, true, false}
use mathlib.Core.List.{List, [], ◌∷◌}
use Prim.Native.Nat.{ℕ, zero, suc, ◌+◌, ◌/◌, ◌%◌, ◌^◌, ◌<◌}
use lib.Dec.{eqb}
use native.Mathlib.Omega.{arith}
use borrow.Author.Tests.{eq-eqb, ne_eqb}
use Rattle.bits.specs.Bits.{val}
use Rattle.map.specs.Map.{Part, kind_at, reserved, part_of}
use Rattle.registers.specs.Registers.{Core}
use Rattle.registers.specs.Interrupt.{Interrupt}
use Rattle.registers.proofs.Lawful.{Lawful}
use Rattle.device_rules.specs.Device.{Identity, State, Bus, Outcome, number, bus_at, identity, state, out, goes, address_byte, byte_at, next_place, at_place, byte_in, fetch_in, start_in, step}
use Rattle.device_rules.specs.Device.Bus.{Idle, Opened, Filling, Deaf, Asking, Named, Reopened, Telling}
use Rattle.device_rules.specs.Refusals.{stepped}
use Rattle.device_rules.specs.declared.Answer.{Answer}
use Rattle.device_rules.specs.declared.Answer.TheVariants.{Nothing, Ack, Nak, Byte}
use Rattle.device_rules.proofs.Images.{fetch_taken}
use Rattle.device_demands.specs.Run.{after, answers}
use Rattle.device_demands.specs.Transactions.{START, STOP, sent, fetch as fetched-byte, fetched_all, identify, places_on, told_from}
use Rattle.device_demands.proofs.Keeps.{WellFormed, image_of, to, stepped_keeps}
use Rattle.device_demands.proofs.Transacting.{on, ended, answers_on, answers_ended, ready, opened, start, stop, sent_byte}

-- ---- fetches and STOP, in Telling
module _ (p : Part) (ok : Lawful p) (r : Core) (k : Interrupt) (n m c : ℕ) where
  abbrev Tells : Identity → State
  Tells id = state r k n m (number Telling) c id

  abbrev Told : Identity → State
  Told id = state r k n m (number Deaf) c id

  abbrev further : Identity → Identity
  further id = identity id.number (next_place id.place)

  module _ (id : Identity) (g : WellFormed p (Tells id)) where
    tell_on : stepped p (Tells id) 3 1 ≡ out (Byte (byte_at id)) (Tells (further id))
    unfolding step fetch_in
    tell_on = sym (fetch_taken p (Tells id) 1 (image_of p (Tells id) g.sound) (omega arith))

    tell_last : stepped p (Tells id) 3 0 ≡ out (Byte (byte_at id)) (Told id)
    unfolding step fetch_in
    tell_last = sym (fetch_taken p (Tells id) 0 (image_of p (Tells id) g.sound) (omega arith))

    on_kept : WellFormed p (Tells (further id))
    on_kept = subst (λ (o : Outcome). WellFormed p o.after) tell_on (stepped_keeps p ok (Tells id) g 3 1)

    last_kept : WellFormed p (Told id)
    last_kept = subst (λ (o : Outcome). WellFormed p o.after) tell_last (stepped_keeps p ok (Tells id) g 3 0)

  tell_all : (id : Identity) → WellFormed p (Tells id) → (more : ℕ) → after p (Tells id) (fetched_all more) ≡ state r k n m (number Idle) c (places_on id more)
  tell_all id g zero =
      on p (Tells id) (fetched-byte false) _ _ (tell_last id g) ∙ on p (Told id) STOP [] _ (stop p ok (Told id) (last_kept id g) refl) ∙ ended p _
  tell_all id g (suc more) = on p (Tells id) (fetched-byte true) _ _ (tell_on id g) ∙ tell_all (further id) (on_kept id g) more

  tell_answers : (id : Identity) → WellFormed p (Tells id) → (more : ℕ) → answers p (Tells id) (fetched_all more) ≡ told_from id more (Nothing ∷ [])
  tell_answers id g zero =
      answers_on p (Tells id) (fetched-byte false) _ _ (tell_last id g)
      ∙ ap (λ (l : List Answer). Byte (byte_at id) ∷ l)
      (answers_on p (Told id) STOP [] _ (stop p ok (Told id) (last_kept id g) refl) ∙ ap (λ (l : List Answer). Nothing ∷ l) (answers_ended p _))
  tell_answers id g (suc more) =
      answers_on p (Tells id) (fetched-byte true) _ _ (tell_on id g) ∙ ap (λ (l : List Answer). Byte (byte_at id) ∷ l) (tell_answers (further id) (on_kept id g) more)

-- ---- the question
module _ (p : Part) (ok : Lawful p) (s : State) (g : WellFormed p s) where
  asked : stepped p (opened s) 2 0xf8 ≡ out Ack (goes s Asking)
  unfolding step byte_in
  asked = ready (λ (k : Bus). stepped p (goes s k) 2 0xf8 ≡ out Ack (goes s Asking)) in_opened in_reopened (bus_at s.bus)
    where
      -- it is no address byte of ours
      write : eqb 0xf8 (address_byte s) ≡ false
      write = ne_eqb 0xf8 (address_byte s) (λ e. omega (arith, g.sound.choice_small, e))

      read : eqb 0xf8 (address_byte s + 1) ≡ false
      read = ne_eqb 0xf8 (address_byte s + 1) (λ e. omega (arith, g.sound.choice_small, e))

      in_opened : stepped p (goes s Opened) 2 0xf8 ≡ out Ack (goes s Asking)
      in_opened = sent_byte p ok (goes s Opened) (to p ok s g Opened) 0xf8 (omega arith) ∙ simp (write, read)

      in_reopened : stepped p (goes s Reopened) 2 0xf8 ≡ out Ack (goes s Asking)
      in_reopened = sent_byte p ok (goes s Reopened) (to p ok s g Reopened) 0xf8 (omega arith) ∙ simp (write, read)

  named : (low : Bool) → stepped p (goes s Asking) 2 (address_byte s + val low) ≡ out Ack (goes s Named)
  unfolding step byte_in
  named true =
      sent_byte p ok (goes s Asking) (to p ok s g Asking) (address_byte s + 1) (omega (arith, g.sound.choice_small))
      ∙ simp (ne_eqb (address_byte s + 1) (address_byte s) (λ e. omega arith), eq-eqb (address_byte s + 1) (address_byte s + 1) refl)
  named false =
      sent_byte p ok (goes s Asking) (to p ok s g Asking) (address_byte s + 0) (omega (arith, g.sound.choice_small)) ∙ simp (eq-eqb (address_byte s + 0) (address_byte s) (omega arith))

  again : stepped p (goes s Named) 0 0 ≡ out Nothing (goes s Reopened)
  unfolding start_in
  again = start p ok (goes s Named) (to p ok s g Named)

  tells : stepped p (goes s Reopened) 2 0xf9 ≡ out Ack (goes (at_place s 0) Telling)
  unfolding step byte_in
  tells = sent_byte p ok (goes s Reopened) (to p ok s g Reopened) 0xf9 (omega arith)

  telling : WellFormed p (goes (at_place s 0) Telling)
  telling = subst (λ (o : Outcome). WellFormed p o.after) tells (stepped_keeps p ok (goes s Reopened) (to p ok s g Reopened) 2 0xf9)

  module _ (low : Bool) (more : ℕ) where
    -- START, F8h, our byte with either lowest bit, START, F9h, fetches, STOP: the bytes of the number, the highest first, round and round
    pub identified_answers : answers p s (identify s.choice low more) ≡ Nothing ∷ Ack ∷ Ack ∷ Nothing ∷ Ack ∷ told_from (identity s.id.number 0) more (Nothing ∷ [])
    identified_answers =
        answers_on p s START _ _ (start p ok s g)
        ∙ ap (λ (l : List Answer). Nothing ∷ l)
        (answers_on p (opened s) (sent 0xf8) _ _ asked
        ∙ ap (λ (l : List Answer). Ack ∷ l)
        (answers_on p (goes s Asking) (sent (address_byte s + val low)) _ _ (named low)
        ∙ ap (λ (l : List Answer). Ack ∷ l)
        (answers_on p (goes s Named) START _ _ again
        ∙ ap (λ (l : List Answer). Nothing ∷ l)
        (answers_on p (goes s Reopened) (sent 0xf9) _ _ tells
        ∙ ap (λ (l : List Answer). Ack ∷ l) (tell_answers p ok s.regs s.interrupt s.pointer s.mode s.choice (identity s.id.number 0) telling more)))))

    -- registers, pins, status set, line, pointer, mode and address stay; only the place is another
    pub identified : after p s (identify s.choice low more)
        ≡ state s.regs s.interrupt s.pointer s.mode (number Idle) s.choice (places_on (identity s.id.number 0) more)
    identified =
        on p s START _ _ (start p ok s g) ∙ on p (opened s) (sent 0xf8) _ _ asked ∙ on p (goes s Asking) (sent (address_byte s + val low)) _ _ (named low)
        ∙ on p (goes s Named) START _ _ again ∙ on p (goes s Reopened) (sent 0xf9) _ _ tells
        ∙ tell_all p ok s.regs s.interrupt s.pointer s.mode s.choice (identity s.id.number 0) telling more

-- after three bytes it is at the first again
pub round_again : (n more : ℕ) (then : List Answer)
    → told_from (identity n 0) (suc (suc (suc more))) then ≡ Byte (n / 2 ^ 16 % 256) ∷ Byte (n / 2 ^ 8 % 256) ∷ Byte (n % 256) ∷ told_from (identity n 0) more then
round_again n more then = refl

-- ---- F9h elsewhere
-- number 79h is no register of either part
reserved_79 : (part : ℕ) → reserved (part_of part) 0x79 ≡ true
unfolding reserved kind_at
reserved_79 zero = refl
reserved_79 (suc part) = refl

-- as an address byte it is acknowledged in Reopened alone, after the repeated START; in Filling it is data
pub told_alone : (part : ℕ) (ok : Lawful (part_of part)) (s : State) → WellFormed (part_of part) s → (s.bus ≡ number Reopened → ⊥) → (s.bus ≡ number Filling → ⊥)
    → (stepped (part_of part) s 2 0xf9).answer ≡ Nak
unfolding step byte_in
told_alone part ok s g z y = ap (λ (o : Outcome). o.answer) (sent_byte (part_of part) ok s g 0xf9 (omega arith)) ∙ by s.bus g.sound.bus_small z y
  where
    p : Part
    p = part_of part

    write : eqb 0xf9 (address_byte s) ≡ false
    write = ne_eqb 0xf9 (address_byte s) (λ e. omega (arith, g.sound.choice_small, e))

    read : eqb 0xf9 (address_byte s + 1) ≡ false
    read = ne_eqb 0xf9 (address_byte s + 1) (λ e. omega (arith, g.sound.choice_small, e))

    by : (n : ℕ) → n < 12 → (n ≡ 10 → ⊥) → (n ≡ 3 → ⊥) → (byte_in p (bus_at n) s 0xf9).answer ≡ Nak
    by zero h z y = refl
    by (suc zero) h z y = simp (write, read)
    by (suc (suc zero)) h z y = simp (reserved_79 part)
    by (suc (suc (suc zero))) h z y = absurd (y refl)
    by (suc (suc (suc (suc zero)))) h z y = refl
    by (suc (suc (suc (suc (suc zero))))) h z y = refl
    by (suc (suc (suc (suc (suc (suc zero)))))) h z y = refl
    by (suc (suc (suc (suc (suc (suc (suc zero))))))) h z y = refl
    by (suc (suc (suc (suc (suc (suc (suc (suc zero)))))))) h z y = simp (write, read)
    by (suc (suc (suc (suc (suc (suc (suc (suc (suc zero))))))))) h z y = refl
    by (suc (suc (suc (suc (suc (suc (suc (suc (suc (suc zero)))))))))) h z y = absurd (z refl)
    by (suc (suc (suc (suc (suc (suc (suc (suc (suc (suc (suc zero))))))))))) h z y = refl
    by (suc (suc (suc (suc (suc (suc (suc (suc (suc (suc (suc (suc n)))))))))))) h z y = absurd (omega arith)
