-- The state that the words hold, which words are the packing of a well-formed image, and what a step on them promises.
use Rattle.std.specs.Prelude.{◌≡◌, false, List, ℕ, ◌^◌, ◌<◌, get_or, Option, Some, None}
use Rattle.map.specs.Map.{Part, reserved, part_of}
use Rattle.device_rules.specs.Device.{Identity, State, Outcome, identity, state, out}
use Rattle.device_rules.specs.declared.Answer.{Answer}
use Rattle.device_rules.specs.declared.Answer.TheVariants.{Refused}
use Rattle.device_rules.specs.Refusals.{stepped}
use Rattle.registers.specs.Registers.{Core}
use Rattle.registers.specs.Interrupt.{worked_out}
use Rattle.words.specs.Words.{core_in, interrupt_in, Fit}
use Rattle.words_rows.specs.Rows.{row_at}

abbrev pub pointer_word : ℕ
pointer_word = 21

abbrev pub bus_word : ℕ
bus_word = 22

abbrev pub choice_word : ℕ
choice_word = 23

-- the pointer's mode
abbrev pub mode_word : ℕ
mode_word = 24

-- the Device ID: its number, its place
abbrev pub id_word : ℕ
id_word = 25

abbrev pub place_word : ℕ
place_word = 26

abbrev pub part_word : ℕ
part_word = 27

abbrev pub id_in : List ℕ → Identity
id_in w = identity (get_or w id_word 0) (get_or w place_word 0)

abbrev pub state_in : Part → List ℕ → State
state_in p w = state (core_in p w) (interrupt_in w) (get_or w pointer_word 0) (get_or w mode_word 0) (get_or w bus_word 0) (get_or w choice_word 0) (id_in w)

-- the words are the packing of a well-formed image of part c: what is kept of the interrupt is what the rules work out
pub record Packed (c : ℕ) (w : List ℕ) : Type 0 where
  pub known_part : c < 2
  pub fit : Fit (part_of c) w
  pub right : interrupt_in w ≡ worked_out (part_of c) (core_in (part_of c) w)
  pub pointer_known : reserved (part_of c) (get_or w pointer_word 0) ≡ false
  pub mode_small : get_or w mode_word 0 < 2
  pub bus_small : get_or w bus_word 0 < 12
  pub choice_small : get_or w choice_word 0 < 4
  pub id_small : get_or w id_word 0 < 2 ^ 24
  pub place_small : get_or w place_word 0 < 3
  pub part_is : get_or w part_word 0 ≡ c

-- the words are the packing of a well-formed image of the part that they name, and the row is that of a number of it
pub record Standing (row number : ℕ) (w : List ℕ) : Type 0 where
  pub packed : Packed (get_or w part_word 0) w
  pub row_is : row ≡ row_at (part_of (get_or w part_word 0)) number

-- the words after registers and pins became those: what is kept of the interrupt is right for them, and the other words stay
pub record Becomes (c : ℕ) (w w' : List ℕ) (after : Core) : Type 0 where
  pub core : core_in (part_of c) w' ≡ after
  pub fit : Fit (part_of c) w'
  pub right : interrupt_in w' ≡ worked_out (part_of c) after
  pub rest : (s : ℕ) → 20 < s → get_or w' s 0 ≡ get_or w s 0

-- the answer and the words left: those of the outcome, and packed again
pub record Leaves (c : ℕ) (w : List ℕ) (answer : Answer) (o : Outcome) : Type 0 where
  pub outcome : out answer (state_in (part_of c) w) ≡ o
  pub packed : Packed c w

-- a step from the words w to w': by the rules where w is packed; refused with 3 where it is not; refused, nothing is changed
pub record Steps (c : ℕ) (w w' : List ℕ) (kind arg : ℕ) (answer : Answer) : Type 0 where
  pub taken : Packed c w → Leaves c w' answer (stepped (part_of c) (state_in (part_of c) w) kind arg)
  pub broken : (Packed c w → ⊥) → answer ≡ Refused 3
  pub refused : (n : ℕ) → answer ≡ Refused n → w' ≡ w

-- of words that are packed the row of the register at the pointer; none of any others
pub record Judged (c : ℕ) (w : List ℕ) (row : Option ℕ) : Type 0 where
  pub packed : (r : ℕ) → row ≡ Some r → Packed c w
  pub row_is : (r : ℕ) → row ≡ Some r → r ≡ row_at (part_of c) (get_or w pointer_word 0)
  pub broken : row ≡ None → Packed c w → ⊥

-- what the image test asks of the words alone, the pointer's register apart
pub record Bounded (c : ℕ) (w : List ℕ) : Type 0 where
  pub fit : Fit (part_of c) w
  pub right : interrupt_in w ≡ worked_out (part_of c) (core_in (part_of c) w)
  pub pointer_small : get_or w pointer_word 0 < 128
  pub mode_small : get_or w mode_word 0 < 2
  pub bus_small : get_or w bus_word 0 < 12
  pub choice_small : get_or w choice_word 0 < 4
  pub id_small : get_or w id_word 0 < 2 ^ 24
  pub place_small : get_or w place_word 0 < 3
  pub part_is : get_or w part_word 0 ≡ c
