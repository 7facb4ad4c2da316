-- A device with its loss marks, over any list of events and sign-offs, and what it means that a pin was signed off.
use Rattle.std.specs.Prelude.{◌≡◌, Bool, false, not, ◌&&◌, List, [], ◌∷◌, ◌++◌, ℕ, eqb}
use Rattle.bits.specs.Bits.{bit}
use Rattle.map.specs.Map.{Part}
use Rattle.device_rules.specs.Device.{State}
use Rattle.device_rules.specs.Refusals.{event_of}
use Rattle.device_rules.specs.PowerOn.{power_on}
use Rattle.device_rules.specs.Answers.{answer_kind}
use Rattle.device_rules.specs.declared.Answer.{Answer}
use Rattle.device_demands.specs.Run.{Asked}
use Rattle.loss_rules.specs.Marks.{Marks, is_reset, sets_mark, new_marks, marked_step, sign_off}

-- what is done: an event of the device, by its kind and argument, or a sign-off of a pin
pub data Act : Type 0 where
  Event : (kind arg : ℕ) → Act
  SignOff : (pin : ℕ) → Act

pub record Watched : Type 0 where
  pub device : State
  pub marks : Marks

abbrev pub watched : State → Marks → Watched
watched device marks = record { device = device; marks = marks }

-- power-on of the supervisor: the device at power-on, every mark set
abbrev pub powered_on : Part → (choice levels id healthy : ℕ) → Watched
powered_on p choice levels id healthy = watched (power_on p choice levels id) (new_marks p healthy)

unfoldable pub acted : Part → Watched → Act → Watched
acted p x (Event kind arg) = watched (marked_step p x.device x.marks kind arg).after (marked_step p x.device x.marks kind arg).marks
acted p x (SignOff pin) = watched x.device (sign_off p x.device x.marks pin).marks

unfoldable pub after_all : Part → Watched → List Act → Watched
after_all p x [] = x
after_all p x (a ∷ acts) = after_all p (acted p x a) acts

-- ---- the device's own share
unfoldable pub events_of : List Act → List Asked
events_of [] = []
events_of (Event kind arg ∷ acts) = record { kind = kind; arg = arg } ∷ events_of acts
events_of (SignOff pin ∷ acts) = events_of acts

-- events alone, nothing signed off
abbrev pub acts_of : List Asked → List Act
acts_of [] = []
acts_of (e ∷ es) = Event e.kind e.arg ∷ acts_of es

-- the answers to its events
unfoldable pub answers_to : Part → Watched → List Act → List Answer
answers_to p x [] = []
answers_to p x (Event kind arg ∷ acts) = (marked_step p x.device x.marks kind arg).answer ∷ answers_to p (acted p x (Event kind arg)) acts
answers_to p x (SignOff pin ∷ acts) = answers_to p (acted p x (SignOff pin)) acts

-- ---- pin i
abbrev pub marked : Watched → (i : ℕ) → Bool
marked x i = bit x.marks.set i

abbrev pub status : Watched → (i : ℕ) → Bool
status x i = bit x.device.interrupt.status i

abbrev pub level : Watched → (i : ℕ) → Bool
level x i = bit x.device.regs.sets.level i

abbrev pub healthy_level : Watched → (i : ℕ) → Bool
healthy_level x i = bit x.marks.healthy i

-- the act sets its mark: an event that is not refused, at which its status bit goes from 0 to 1, or which is a reset and finds it at 1
unfoldable pub sets_at : Part → Watched → Act → (i : ℕ) → Bool
sets_at p x (Event kind arg) i =
    not (eqb (answer_kind (marked_step p x.device x.marks kind arg).answer) 4)
    && sets_mark (is_reset x.device (event_of kind arg)) (status x i) (status (acted p x (Event kind arg)) i)
sets_at p x (SignOff pin) i = false

-- none of the acts sets it
abbrev pub NeverSet : Part → Watched → List Act → (i : ℕ) → Type 0
NeverSet p x [] i = Unit {0}
NeverSet p x (a ∷ acts) i = (sets_at p x a i ≡ false) × NeverSet p (acted p x a) acts i

-- its status bit is 0 now and after each of the acts
abbrev pub QuietThroughout : Part → Watched → List Act → (i : ℕ) → Type 0
QuietThroughout p x [] i = status x i ≡ false
QuietThroughout p x (a ∷ acts) i = (status x i ≡ false) × QuietThroughout p (acted p x a) acts i

-- Pin i was signed off, and nothing was lost since: the acts are those before, its sign-off, and those since. At the sign-off its status bit was 0 and its level the
-- healthy one given when the marks were made; none of the acts since set its mark, and its status bit was 0 at every moment since.
pub record SignedOff (p : Part) (x : Watched) (acts : List Act) (i : ℕ) : Type 0 where
  pub before : List Act
  pub since : List Act
  pub acts_are : acts ≡ before ++ (SignOff i ∷ since)
  pub quiet : status (after_all p x before) i ≡ false
  pub healthy : level (after_all p x before) i ≡ healthy_level x i
  pub never_set : NeverSet p (acted p (after_all p x before) (SignOff i)) since i
  pub quiet_since : QuietThroughout p (acted p (after_all p x before) (SignOff i)) since i
