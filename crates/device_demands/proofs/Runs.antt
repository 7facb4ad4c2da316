-- Runs from power-on: never refused for the image, on every lawful part, and the code's run is the specification's. Assumes nothing.
use mathlib.Core.Path.{◌≡◌, refl, sym, ap, ap₂, ◌∙◌}
use Rattle.std.specs.Prelude.{Result, Ok, Err, IfOk}
use mathlib.Core.Bool.{Bool, true, false, cond, not, ◌&&◌}
use mathlib.Core.List.{List, [], ◌∷◌, ◌++◌}
use Prim.Native.Nat.{ℕ, ◌+◌, ◌%◌, ◌^◌, ◌<◌}
use native.Mathlib.Omega.{arith}
use borrow.Author.Tests.{lt-ltb}
use lib.Dec.{eqb, ltb, leb}
use Rattle.bits.proofs.Decide.{clash, either_arm}
use Rattle.map.specs.Map.{Part, part_of, reserved}
use Rattle.map.specs.Chips.{part_at}
use Rattle.map.specs.declared.Chip.{Chip}
use Rattle.map.specs.declared.Chip.TheVariants.{Pcal6524, Pcal6534}
use Rattle.registers.specs.Registers.{driven_low, driven_high, int_asserted}
use Rattle.registers.proofs.Lawful.{Lawful, lawful}
use Rattle.device_rules.specs.Device.{State, Event, Bus, Outcome, bus_at, out, address_byte, ours, addressed, byte_in, fetch_in, step}
use Rattle.device_rules.specs.Refusals.{image_fits, argument_fits, refusal, stepped, event_of}
use Rattle.device_rules.specs.Device.Bus.{Idle, Opened, Chosen, Filling, Sending, Call, Armed, Deaf, Asking, Named, Reopened, Telling}
use Rattle.device_rules.specs.Device.Event.{Start, Stop, HardwareReset, ByteSent, ByteFetched, Levels}
use Rattle.device_rules.specs.Answers.{answer_kind, refusal_number}
use Rattle.device_rules.specs.declared.Answer.{Answer}
use Rattle.device_rules.specs.declared.Answer.TheVariants.{Nothing, Ack, Nak, Byte, Refused}
use Rattle.device_rules.specs.PowerOn.{power_on, making_refused, MadeOf}
use Rattle.device_rules.proofs.Making.{none_over}
use Rattle.device_making.specs.Refused.{refused_by}
use Rattle.device_making.proofs.Unrefused.{numbered}
use Rattle.device_making.specs.declared.Refusal.{Refusal}
use Rattle.device_making.specs.declared.Refusal.TheVariants.{BadImage}
use Rattle.device.specs.Held.{state_in, fits_in}
use Rattle.device.proofs.Asking.{ruled}
use Rattle.device.specs.declared.Device.{Device}
use Rattle.device_demands.specs.Run.{Asked, seen, seen_from, run, answers, Functions, Said, said, said_from, run_on, run_with, unrefused, Represented, Askable, Contracts}
use Rattle.device_demands.proofs.Keeps.{WellFormed, image_of, stepped_keeps, power_on_fits}

-- ---- a step answers, and does not refuse
abbrev Answers : Outcome → Type 0
Answers o = eqb (answer_kind o.answer) 4 ≡ false

address_answers : (s : State) (b : ℕ) → Answers (addressed s b)
address_answers s b =
    either_arm Answers (eqb b (address_byte s)) refl
    (either_arm Answers (eqb b (address_byte s + 1)) refl (either_arm Answers (eqb b 0x00) refl (either_arm Answers (eqb b 0xf8) refl refl)))

byte_answers : (p : Part) (k : Bus) (s : State) (b : ℕ) → Answers (byte_in p k s b)
unfolding byte_in
byte_answers p Idle s b = refl
byte_answers p Opened s b = address_answers s b
byte_answers p Chosen s b = either_arm Answers (reserved p (b % 128)) refl refl
byte_answers p Filling s b = refl
byte_answers p Sending s b = refl
byte_answers p Call s b = either_arm Answers (eqb b 0x06) refl refl
byte_answers p Armed s b = refl
byte_answers p Deaf s b = refl
byte_answers p Asking s b = either_arm Answers (ours s b) refl refl
byte_answers p Named s b = refl
byte_answers p Reopened s b = either_arm Answers (eqb b 0xf9) refl (address_answers s b)
byte_answers p Telling s b = refl

fetch_answers : (p : Part) (k : Bus) (s : State) (acknowledged : Bool) → Answers (fetch_in p k s acknowledged)
unfolding fetch_in
fetch_answers p Sending s acknowledged = refl
fetch_answers p Idle s acknowledged = refl
fetch_answers p Opened s acknowledged = refl
fetch_answers p Chosen s acknowledged = refl
fetch_answers p Filling s acknowledged = refl
fetch_answers p Call s acknowledged = refl
fetch_answers p Armed s acknowledged = refl
fetch_answers p Deaf s acknowledged = refl
fetch_answers p Asking s acknowledged = refl
fetch_answers p Named s acknowledged = refl
fetch_answers p Reopened s acknowledged = refl
fetch_answers p Telling s acknowledged = refl

pub step_taken : (p : Part) (s : State) (e : Event) → Answers (step p s e)
unfolding step
step_taken p s Start = refl
step_taken p s Stop = refl
step_taken p s HardwareReset = refl
step_taken p s (ByteSent b) = byte_answers p (bus_at s.bus) s b
step_taken p s (ByteFetched acknowledged) = fetch_answers p (bus_at s.bus) s acknowledged
step_taken p s (Levels new) = refl

no_number : (a : Answer) → eqb (answer_kind a) 4 ≡ false → refusal_number a ≡ 0
no_number Nothing e = refl
no_number Ack e = refl
no_number Nak e = refl
no_number (Byte b) e = refl
no_number (Refused n) e = clash true refl e

pub step_answers : (p : Part) (s : State) (e : Event) → refusal_number (step p s e).answer ≡ 0
step_answers p s e = no_number (step p s e).answer (step_taken p s e)

-- ---- with an image that fits, a refusal is 1 or 2
pub image_kept : (p : Part) (s : State) → WellFormed p s → (kind arg : ℕ) → eqb (refusal_number (stepped p s kind arg).answer) 3 ≡ false
unfolding stepped refusal
image_kept p s g kind arg = simp (image_of p s g.sound) (go (leb kind 5) (argument_fits p kind arg))
  where
    go : (k a : Bool)
        → eqb (refusal_number (cond (eqb (cond k (cond a 0 2) 1) 0) (step p s (event_of kind arg)) (out (Refused (cond k (cond a 0 2) 1)) s)).answer) 3 ≡ false
    go true true = ap (λ (n : ℕ). eqb n 3) (step_answers p s (event_of kind arg))
    go true false = refl
    go false a = refl

-- no answer of the list is refusal 3
abbrev pub none_broken : List Answer → Bool
none_broken [] = true
none_broken (a ∷ rest) = not (eqb (refusal_number a) 3) && none_broken rest

run_unbroken : (p : Part) → Lawful p → (s : State) → WellFormed p s → (es : List Asked) → none_broken (answers p s es) ≡ true
unfolding answers
run_unbroken p ok s g [] = refl
run_unbroken p ok s g (e ∷ es) =
    ap (λ (b : Bool). not b && none_broken (answers p (stepped p s e.kind e.arg).after es)) (image_kept p s g e.kind e.arg)
    ∙ run_unbroken p ok (stepped p s e.kind e.arg).after (stepped_keeps p ok s g e.kind e.arg) es

-- from power-on, no event of any list is refused for its image
pub never_refused_for_image : (p : Part) → Lawful p → (choice levels id : ℕ) → choice < 4 → levels < 2 ^ p.width → id < 2 ^ 24 → (es : List Asked)
    → none_broken (answers p (power_on p choice levels id) es) ≡ true
never_refused_for_image p ok choice levels id hc hl hi es = run_unbroken p ok (power_on p choice levels id) (power_on_fits p ok choice levels id hc hl hi) es

-- ---- any functions with the contracts of `Device::power_on`, `step`, `low`, `high` and `int`, as the code has them, say of both parts from
-- power-on on what the rules' run sees, and none of the questions is ever refused
-- a device of the part that holds the state s
record Is (part : ℕ) (s : State) (d : Device) : Type 0 where
  represented : Represented d
  of_part : d.part ≡ part
  holds : state_in d ≡ s

module _ (f : Functions) (c : Contracts f) (part : ℕ) (known : part < 2) where
  abbrev p : Part
  p = part_of part

  -- a question, where the state is well formed
  told : {A : Type 0} (g : ℕ → State → A) (none : A) (s : State) → WellFormed p s → (d : Device) → Is part s d → cond (fits_in d) (g d.part (state_in d)) none ≡ g part s
  told g none s w d is =
      ap₂ (λ (q : ℕ) (x : State). cond (ltb q 2 && image_fits (part_of q) x) (g q x) none) is.of_part is.holds
      ∙ simp (lt-ltb part 2 known, image_of p s w.sound)

  said_seen : (s : State) → WellFormed p s → (d : Device) → Is part s d → (answer : Answer) → said f answer d ∷ [] ≡ unrefused (seen p (out answer s) ∷ [])
  said_seen s w d is answer =
      let r = is.represented in
      let low = c.low d r ∙ told {A = Result ℕ Refusal} (λ q x. Ok (driven_low (part_of q) x.regs)) (Err BadImage) s w d is in
      let high = c.high d r ∙ told {A = Result ℕ Refusal} (λ q x. Ok (driven_high (part_of q) x.regs)) (Err BadImage) s w d is in
      let int = c.int d r ∙ told {A = Result Bool Refusal} (λ q x. Ok (int_asserted (part_of q) x.regs)) (Err BadImage) s w d is in
      λ j. record { answer = answer; low = low j; high = high j; int = int j } ∷ []

  follows : (s : State) → WellFormed p s → (d : Device) → Is part s d → (es : List Asked) → Askable es → said_from f d es ≡ unrefused (seen_from p s es)
  unfolding said_from seen_from
  follows s w d is [] a = refl
  follows s w d is (q ∷ es) a =
      let o = f.step d q.kind q.arg in
      let t = c.step d is.represented q.kind q.arg a.0 a.1 in
      let same : out o.answer (state_in o.device) ≡ stepped p s q.kind q.arg = t.0.outcome ∙ ruled d q.kind q.arg known is.of_part is.holds in
      let next = (stepped p s q.kind q.arg).after in
      let kept = stepped_keeps p (lawful part) s w q.kind q.arg in
      let is' : Is part next o.device =
      record { represented = t.1; of_part = t.0.part_stays ∙ is.of_part; holds = ap (λ (o : Outcome). o.after) same } in
      ap₂ (λ (x xs : List Said). x ++ xs)
      (said_seen next kept o.device is' o.answer ∙ ap (λ (a : Answer). unrefused (seen p (out a next) ∷ [])) (ap (λ (o : Outcome). o.answer) same))
      (follows next kept o.device is' es a.2)

  begun : (choice levels id : ℕ) → choice < 4 → levels < 2 ^ p.width → id < 2 ^ 24 → (es : List Asked) → Askable es → (m : Result Device Refusal)
      → refused_by m ≡ making_refused p choice levels id → IfOk m (λ d. MadeOf p choice levels id 0 (state_in d)) → IfOk m (λ d. d.part ≡ part) → IfOk m Represented
      → run_on f m es ≡ Ok (unrefused (run p choice levels id es))
  begun choice levels id hc hl hi es a (Ok d) refused made its represented =
      let s = power_on p choice levels id in
      let w = power_on_fits p (lawful part) choice levels id hc hl hi in
      let is : Is part s d = record { represented = represented; of_part = its; holds = made.made } in
      ap {A = List Said} {B = Result (List Said) Refusal} Ok (ap₂ (λ (x xs : List Said). x ++ xs) (said_seen s w d is Nothing) (follows s w d is es a))
  begun choice levels id hc hl hi es a (Err e) refused made its represented = absurd (numbered e (refused ∙ sym (none_over p choice levels id hc hl hi)))

module _ (f : Functions) (c : Contracts f) where
  pub run_follows : (chip : Chip) (choice levels id : ℕ) → choice < 4 → levels < 2 ^ (part_at chip).width → id < 2 ^ 24 → (es : List Asked) → Askable es
      → run_with f chip choice levels id es ≡ Ok (unrefused (run (part_at chip) choice levels id es))
  run_follows Pcal6524 choice levels id hc hl hi es a =
      let m = c.power_on Pcal6524 choice levels id (omega (arith, hc)) (omega (arith, hl)) (omega (arith, hi)) in
      begun f c 0 (omega arith) choice levels id hc hl hi es a (f.power_on Pcal6524 choice levels id) m.0.refused m.0.as_ruled m.0.part_is m.1
  run_follows Pcal6534 choice levels id hc hl hi es a =
      let m = c.power_on Pcal6534 choice levels id (omega (arith, hc)) (omega (arith, hl)) (omega (arith, hi)) in
      begun f c 1 (omega arith) choice levels id hc hl hi es a (f.power_on Pcal6534 choice levels id) m.0.refused m.0.as_ruled m.0.part_is m.1
