-- Runs from power-on: any list of events, each given by its kind and argument, and what is seen at power-on and after each of them.
use Rattle.std.specs.Prelude.{◌≡◌, Bool, List, [], ◌∷◌, ℕ, ◌^◌, ◌<◌, length, get_or, Result, Ok, Err, IfOk}
use Rattle.map.specs.Map.{Part}
use Rattle.map.specs.declared.Chip.{Chip}
use Rattle.registers.specs.Registers.{driven_low, driven_high, int_asserted}
use Rattle.device_rules.specs.Device.{State, Outcome, out}
use Rattle.device_rules.specs.Refusals.{stepped}
use Rattle.device_rules.specs.PowerOn.{power_on}
use Rattle.device_rules.specs.declared.Answer.{Answer}
use Rattle.device_rules.specs.declared.Answer.TheVariants.{Nothing}
use Rattle.device_making.specs.declared.Refusal.{Refusal}
use Rattle.device.specs.Held.{Makes, Steps}
use Rattle.device.specs.Asked.{low_of, high_of, line_of}
use Rattle.device.specs.declared.Device.{Device}
use Rattle.device.specs.declared.Stepped.{Stepped}

pub record Asked : Type 0 where
  pub kind : ℕ
  pub arg : ℕ

-- after an event: its answer, the pins driven low and high, whether INT is asserted
pub record Seen : Type 0 where
  pub answer : Answer
  pub low : ℕ
  pub high : ℕ
  pub int : Bool

abbrev pub seen : Part → Outcome → Seen
seen p o =
    record { answer = o.answer; low = driven_low p o.after.regs; high = driven_high p o.after.regs; int = int_asserted p o.after.regs }

unfoldable pub after : Part → State → List Asked → State
after p s [] = s
after p s (e ∷ es) = after p (stepped p s e.kind e.arg).after es

-- what is seen after each event
unfoldable pub seen_from : Part → State → List Asked → List Seen
seen_from p s [] = []
seen_from p s (e ∷ es) = seen p (stepped p s e.kind e.arg) ∷ seen_from p (stepped p s e.kind e.arg).after es

-- a run: what is seen at power-on, before the first event, and after each event
abbrev pub run : Part → (choice levels id : ℕ) → List Asked → List Seen
run p choice levels id es = seen p (out Nothing (power_on p choice levels id)) ∷ seen_from p (power_on p choice levels id) es

-- the answers alone
unfoldable pub answers : Part → State → List Asked → List Answer
answers p s [] = []
answers p s (e ∷ es) = (stepped p s e.kind e.arg).answer ∷ answers p (stepped p s e.kind e.arg).after es

-- ---- the same run on the code's own device
-- the functions of `Device`, each with its result for its arguments
pub record Functions : Type 0 where
  pub power_on : Chip → (choice levels id : ℕ) → Result Device Refusal
  pub step : Device → (kind arg : ℕ) → Stepped
  pub low : Device → Result ℕ Refusal
  pub high : Device → Result ℕ Refusal
  pub int : Device → Result Bool Refusal

-- making a device of that part
abbrev pub making : Functions → (chip : Chip) → (choice levels id : ℕ) → Result Device Refusal
making f chip choice levels id = f.power_on chip choice levels id

-- what the code says: the answer, and to the three questions a value or a refusal
pub record Said : Type 0 where
  pub answer : Answer
  pub low : Result ℕ Refusal
  pub high : Result ℕ Refusal
  pub int : Result Bool Refusal

abbrev pub said : Functions → Answer → Device → Said
said f answer d = record { answer = answer; low = f.low d; high = f.high d; int = f.int d }

unfoldable pub said_from : Functions → Device → List Asked → List Said
said_from f d [] = []
said_from f d (e ∷ es) = said f (f.step d e.kind e.arg).answer (f.step d e.kind e.arg).device ∷ said_from f (f.step d e.kind e.arg).device es

-- from a device that was made on; where none was made, why
abbrev pub run_on : Functions → Result Device Refusal → List Asked → Result (List Said) Refusal
run_on f (Ok d) es = Ok (said f Nothing d ∷ said_from f d es)
run_on f (Err e) es = Err e

abbrev pub run_with : Functions → (chip : Chip) → (choice levels id : ℕ) → List Asked → Result (List Said) Refusal
run_with f chip choice levels id es = run_on f (making f chip choice levels id) es

-- what is seen, said with no refusal
abbrev pub unrefused : List Seen → List Said
unrefused [] = []
unrefused (x ∷ xs) = record { answer = x.answer; low = Ok x.low; high = Ok x.high; int = Ok x.int } ∷ unrefused xs

-- ---- what the code's types hold
-- a device: 128 bytes, five pin sets and a Device ID of 64 bits, seven bytes
pub record Represented (d : Device) : Type 0 where
  pub part : d.part < 2 ^ 8
  pub entries : length d.file ≡ 128
  pub bytes : (n : ℕ) → get_or d.file n 0 < 2 ^ 8
  pub level : d.sets.level < 2 ^ 64
  pub reference : d.sets.reference < 2 ^ 64
  pub held : d.sets.held < 2 ^ 64
  pub edge : d.sets.edge < 2 ^ 64
  pub pointer : d.pointer < 2 ^ 8
  pub bus : d.bus < 2 ^ 8
  pub choice : d.choice < 2 ^ 8
  pub status : d.status < 2 ^ 64
  pub line : d.line < 2 ^ 8
  pub mode : d.mode < 2 ^ 8
  pub number : d.number < 2 ^ 64
  pub place : d.place < 2 ^ 8

-- events: a kind of 32 bits, an argument of 64
abbrev pub Askable : List Asked → Type 0
Askable [] = Unit {0}
Askable (e ∷ es) = (e.kind < 2 ^ 32) × (e.arg < 2 ^ 64) × Askable es

-- the contracts as the code has them: of arguments that its types hold, and with results that they hold
pub record Contracts (f : Functions) : Type 0 where
  pub power_on : (chip : Chip) (choice levels id : ℕ) → choice < 2 ^ 8 → levels < 2 ^ 64 → id < 2 ^ 64
      → Makes chip choice levels id (f.power_on chip choice levels id) × IfOk (f.power_on chip choice levels id) Represented
  pub step : (d : Device) → Represented d → (kind arg : ℕ) → kind < 2 ^ 32 → arg < 2 ^ 64
      → Steps d kind arg (f.step d kind arg) × Represented (f.step d kind arg).device
  pub low : (d : Device) → Represented d → f.low d ≡ low_of d
  pub high : (d : Device) → Represented d → f.high d ≡ high_of d
  pub int : (d : Device) → Represented d → f.int d ≡ line_of d
