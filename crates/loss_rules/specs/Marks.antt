-- The loss marks: one for each pin, beside the device. An event can set them; nothing but a sign-off clears one.
use Rattle.std.specs.Prelude.{Bool, true, false, cond, not, ◌&&◌, ◌||◌, ℕ, ◌^◌, eqb, ltb}
use Rattle.bits.specs.Bits.{bit, differs, tabulate}
use Rattle.map.specs.Map.{Part}
use Rattle.device_rules.specs.Device.{State, Event, Outcome, number, out}
use Rattle.device_rules.specs.Device.Bus.{Armed}
use Rattle.device_rules.specs.Device.Event.{Start, Stop, HardwareReset, ByteSent, ByteFetched, Levels}
use Rattle.device_rules.specs.Refusals.{event_of, image_fits, stepped}
use Rattle.device_rules.specs.Answers.{answer_kind}
use Rattle.device_rules.specs.declared.Answer.{Answer}
use Rattle.device_rules.specs.declared.Answer.TheVariants.{Refused}

-- the pins whose mark is set, and each pin's healthy level, given when the marks are made
pub record Marks : Type 0 where
  pub set : ℕ
  pub healthy : ℕ

abbrev pub marks : (set healthy : ℕ) → Marks
marks set healthy = record { set = set; healthy = healthy }

-- ---- one pin
-- An event sets the mark where the pin's status bit goes from 0 to 1; a reset also where it finds the bit at 1.
unfoldable pub sets_mark : (is_reset before after : Bool) → Bool
sets_mark is_reset before after = (not before && after) || (is_reset && before)

-- No event clears it.
unfoldable pub mark_after : (mark is_reset before after : Bool) → Bool
mark_after mark is_reset before after = mark || sets_mark is_reset before after

-- It can be signed off while the pin is quiet, its status bit 0, and healthy, its level the healthy one: the raw level, polarity apart.
unfoldable pub quiet_and_healthy : (status level healthy : Bool) → Bool
quiet_and_healthy status level healthy = not status && not (differs level healthy)

-- A sign-off clears the mark of its own pin.
unfoldable pub mark_signed : (mark its : Bool) → Bool
mark_signed mark its = mark && not its

-- ---- all pins
-- a reset, of whatever kind: the hardware's, or STOP in Armed
abbrev pub is_reset : State → Event → Bool
is_reset s HardwareReset = true
is_reset s Stop = eqb s.bus (number Armed)
is_reset s Start = false
is_reset s (ByteSent b) = false
is_reset s (ByteFetched acknowledged) = false
is_reset s (Levels new) = false

-- the marks after an event that found this status set and left that
unfoldable pub noted : Part → (is_reset : Bool) → (before after : ℕ) → Marks → Marks
noted p is_reset before after m =
    marks (tabulate p.width (λ i. mark_after (bit m.set i) is_reset (bit before i) (bit after i))) m.healthy

-- the marks after an event with this outcome: refused, it changes none
unfoldable pub marks_after : Part → State → Event → Outcome → Marks → Marks
marks_after p s e o m =
    cond (eqb (answer_kind o.answer) 4) m (noted p (is_reset s e) s.interrupt.status o.after.interrupt.status m)

unfoldable pub signed : Part → (pin : ℕ) → Marks → Marks
signed p pin m = marks (tabulate p.width (λ i. mark_signed (bit m.set i) (eqb i pin))) m.healthy

-- ---- what is refused, by its number; 0 is none
-- 3: a set that has other pins than the part's
unfoldable pub marks_fit : Part → Marks → Bool
marks_fit p m = ltb m.set (2 ^ p.width) && ltb m.healthy (2 ^ p.width)

-- 2 of making them: a healthy set that has other pins than the part's
abbrev pub marks_refused : Part → (healthy : ℕ) → ℕ
marks_refused p healthy = cond (ltb healthy (2 ^ p.width)) 0 2

-- Made, all are set: nothing is known yet of any pin.
unfoldable pub new_marks : Part → (healthy : ℕ) → Marks
new_marks p healthy = marks (tabulate p.width (λ i. true)) healthy

-- an answer, the device and the marks after it
pub record Marked : Type 0 where
  pub answer : Answer
  pub after : State
  pub marks : Marks

-- One event with marks: 3 covers them, and is tested first; else the device's own step.
unfoldable pub marked_step : Part → State → Marks → (kind arg : ℕ) → Marked
marked_step p s m kind arg =
    let o : Outcome = cond (marks_fit p m) (stepped p s kind arg) (out (Refused 3) s) in
    record { answer = o.answer; after = o.after; marks = marks_after p s (event_of kind arg) o m }

-- the refusal's number, and the marks after it
pub record SignedOff : Type 0 where
  pub refusal : ℕ
  pub marks : Marks

-- Sign-off of a pin, tested in this order: device and marks 3, a pin that the part does not have 2, one that is not quiet and healthy 13. Refused, no mark changes.
unfoldable pub sign_refused : Part → State → Marks → (pin : ℕ) → ℕ
sign_refused p s m pin =
    cond (image_fits p s && marks_fit p m)
    (cond (ltb pin p.width) (cond (quiet_and_healthy (bit s.interrupt.status pin) (bit s.regs.sets.level pin) (bit m.healthy pin)) 0 13) 2)
    3

unfoldable pub sign_off : Part → State → Marks → (pin : ℕ) → SignedOff
sign_off p s m pin =
    let n : ℕ = sign_refused p s m pin in
    record { refusal = n; marks = cond (eqb n 0) (signed p pin m) m }
