-- What a C host sees: the state as words, an image as its arrays, answers and refusals as numbers. Each call of part c, whatever is lent to it.
use Rattle.std.specs.Prelude.{true, false, cond, List, [], ◌∷◌, ◌≡◌, ℕ, eqb, get_or, Result, Ok, Err}
use Rattle.map.specs.Map.{Part, part_of, reserved}
use Rattle.registers.specs.Registers.{core, driven_low, driven_high, int_asserted}
use Rattle.registers.specs.Interrupt.{interrupt}
use Rattle.device_rules.specs.Device.{State, Outcome, identity, state, shown_in}
use Rattle.device_rules.specs.Answers.{answer_kind, answer_byte, refusal_number}
use Rattle.device_rules.specs.declared.Answer.{Answer}
use Rattle.device_rules.specs.Refusals.{image_fits, stepped}
use Rattle.device_rules.specs.PowerOn.{power_on, making_refused}
use Rattle.planner_promise.specs.declared.Refusal.{Refusal}
use Rattle.words_state.specs.Packed.{state_in, Packed}

-- the answer's kind and byte; a refusal leaves what was lent for them as it was
abbrev pub told_as : Answer → (lent : List ℕ) → List ℕ
told_as answer lent = cond (eqb (answer_kind answer) 4) lent (answer_kind answer ∷ answer_byte answer ∷ [])

-- what one event leaves of words that are packed: the refusal's number, 0 for none; the state after; the answer
pub record Taken (c : ℕ) (o : Outcome) (number : ℕ) (w' told told' : List ℕ) : Type 0 where
  pub refused : number ≡ refusal_number o.answer
  pub packed : Packed c w'
  pub after : state_in (part_of c) w' ≡ o.after
  pub answer : told' ≡ told_as o.answer told

-- one event: by the rules where the words are packed; 3 where they are not; refused, nothing lent is changed
pub record Told (c : ℕ) (w : List ℕ) (kind arg number : ℕ) (w' told told' : List ℕ) : Type 0 where
  pub taken : Packed c w → Taken c (stepped (part_of c) (state_in (part_of c) w) kind arg) number w' told told'
  pub broken : (Packed c w → ⊥) → number ≡ 3
  pub unchanged : eqb number 0 ≡ false → (w' ≡ w) × (told' ≡ told)

-- making a device: refused, the words as they were
pub record Made (c choice levels id number : ℕ) (w w' : List ℕ) : Type 0 where
  pub refused : number ≡ making_refused (part_of c) choice levels id
  pub made : making_refused (part_of c) choice levels id ≡ 0 → Packed c w' × (state_in (part_of c) w' ≡ power_on (part_of c) choice levels id)
  pub unchanged : eqb (making_refused (part_of c) choice levels id) 0 ≡ false → w' ≡ w

-- what can be seen of a device: 3 if it is broken, and then what was lent for it stays as it was
pub record Seen (c : ℕ) (w : List ℕ) (value : Part → State → List ℕ) (number : ℕ) (lent lent' : List ℕ) : Type 0 where
  pub seen : Packed c w → (number ≡ 0) × (lent' ≡ value (part_of c) (state_in (part_of c) w))
  pub broken : (Packed c w → ⊥) → (number ≡ 3) × (lent' ≡ lent)

abbrev pub drives_of : Part → State → List ℕ
drives_of p s = driven_low p s.regs ∷ driven_high p s.regs ∷ []

-- 1 if INT is asserted
abbrev pub int_of : Part → State → List ℕ
int_of p s = cond (int_asserted p s.regs) 1 0 ∷ []

-- the byte of one register: after 3 also 2, for a number that is reserved or over 7Fh
pub record Shown (c : ℕ) (w : List ℕ) (n number : ℕ) (lent lent' : List ℕ) : Type 0 where
  pub seen : Packed c w
      → (number ≡ cond (reserved (part_of c) n) 2 0) × (lent' ≡ cond (reserved (part_of c) n) lent (shown_in (part_of c) (state_in (part_of c) w) n ∷ []))
  pub broken : (Packed c w → ⊥) → (number ≡ 3) × (lent' ≡ lent)

-- ---- images: the pin sets in the order level, reference, held, edge; the registers; pointer, bus state, address choice, status, line, mode, the Device ID's number and place
abbrev pub image_in : (pins file rest : List ℕ) → State
image_in pins file rest =
    state (core file (record { level = get_or pins 0 0; reference = get_or pins 1 0; held = get_or pins 2 0; edge = get_or pins 3 0 }))
    (interrupt (get_or rest 3 0) (get_or rest 4 0)) (get_or rest 0 0) (get_or rest 5 0) (get_or rest 1 0) (get_or rest 2 0) (identity (get_or rest 6 0) (get_or rest 7 0))

-- an image to words: 3 if it may not stand, and then the words stay
pub record FromImage (c : ℕ) (image : State) (number : ℕ) (w w' : List ℕ) : Type 0 where
  pub packed : image_fits (part_of c) image ≡ true → (number ≡ 0) × Packed c w' × (state_in (part_of c) w' ≡ image)
  pub broken : image_fits (part_of c) image ≡ false → (number ≡ 3) × (w' ≡ w)

-- words to an image: 3 if they are packed of none, and then what was lent for it stays as it was
pub record ToImage (c : ℕ) (w : List ℕ) (number : ℕ) (pins file rest pins' file' rest' : List ℕ) : Type 0 where
  pub unpacked : Packed c w → (number ≡ 0) × (image_in pins' file' rest' ≡ state_in (part_of c) w)
  pub broken : (Packed c w → ⊥) → (number ≡ 3) × (pins' ≡ pins) × (file' ≡ file) × (rest' ≡ rest)

-- ---- plans
-- how many writes there are, stored beside the plan; a refusal leaves what was lent for it as it was
abbrev pub writes_after : Result ℕ Refusal → (before : List ℕ) → List ℕ
writes_after (Ok n) before = n ∷ []
writes_after (Err refusal) before = before

-- the planner's count out of the two: the refusal's number and what was lent for the count; 0 where it was refused
abbrev pub count_in : (number : ℕ) → (writes : List ℕ) → ℕ
count_in number writes = cond (eqb number 0) (get_or writes 0 0) 0
