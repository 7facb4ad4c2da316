-- The state that a device holds, and what making one and stepping one promise: of either part.
use Rattle.std.specs.Prelude.{◌≡◌, Bool, true, cond, ◌&&◌, List, ℕ, ltb, Result, IfOk}
use Rattle.map.specs.Map.{part_of}
use Rattle.map.specs.Chips.{part_at}
use Rattle.map.specs.declared.Chip.{Chip}
use Rattle.map.specs.declared.Chip.TheVariants.{Pcal6524, Pcal6534}
use Rattle.registers.specs.Registers.{core}
use Rattle.registers.specs.Interrupt.{interrupt}
use Rattle.device_rules.specs.Device.{State, Outcome, identity, state, out}
use Rattle.device_rules.specs.Refusals.{image_fits, stepped}
use Rattle.device_rules.specs.PowerOn.{MadeOf, making_refused}
use Rattle.device_rules.specs.declared.Answer.TheVariants.{Refused}
use Rattle.device_making.specs.Refused.{refused_by}
use Rattle.device_making.specs.declared.Refusal.{Refusal}
use Rattle.words_state.specs.Packed.{Packed}
use Rattle.words_state.specs.Packed.{state_in as words_state_in}
use Rattle.device.specs.declared.Device.{Device}
use Rattle.device.specs.declared.Stepped.{Stepped}

-- the state that a device's fields hold: all of it but the part
abbrev pub state_in : Device → State
state_in d = state (core d.file d.sets) (interrupt d.status d.line) d.pointer d.mode d.bus d.choice (identity d.number d.place)

-- whether the device is one of the two parts, and its state an image of that part that may stand; else it is a broken image: 3
abbrev pub fits_in : Device → Bool
fits_in d = ltb d.part 2 && image_fits (part_of d.part) (state_in d)

-- an event given by its kind and argument: by the rules of the device's part
abbrev pub stepped_in : Device → (kind arg : ℕ) → Outcome
stepped_in d kind arg = cond (ltb d.part 2) (stepped (part_of d.part) (state_in d) kind arg) (out (Refused 3) (state_in d))

-- a step: its answer and the state after are those of the rules, and the part stays
pub record Steps (d : Device) (kind arg : ℕ) (s : Stepped) : Type 0 where
  pub outcome : out s.answer (state_in s.device) ≡ stepped_in d kind arg
  pub part_stays : s.device.part ≡ d.part

-- the words that an image which may stand is packed into
abbrev pub Stands : Device → (words : List ℕ) → Type 0
Stands d w = Packed d.part w × (words_state_in (part_of d.part) w ≡ state_in d) × (fits_in d ≡ true)

-- the number of a part
abbrev pub number_at : Chip → ℕ
number_at Pcal6524 = 0
number_at Pcal6534 = 1

-- making a device: refused as the rules have it; else a device of that part as they have it
pub record Makes (chip : Chip) (choice levels id : ℕ) (m : Result Device Refusal) : Type 0 where
  pub refused : refused_by m ≡ making_refused (part_at chip) choice levels id
  pub as_ruled : IfOk m (λ d. MadeOf (part_at chip) choice levels id 0 (state_in d))
  pub part_is : IfOk m (λ d. d.part ≡ number_at chip)
