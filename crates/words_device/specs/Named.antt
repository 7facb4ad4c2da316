-- Words that are packed of the part that they name, and what an event does to them.
use Rattle.std.specs.Prelude.{List, ℕ, get_or}
use Rattle.map.specs.Map.{part_of}
use Rattle.device_rules.specs.declared.Answer.{Answer}
use Rattle.device_rules.specs.Refusals.{stepped}
use Rattle.words_state.specs.Packed.{part_word, state_in, Packed, Leaves}

abbrev pub Named : List ℕ → Type 0
Named w = Packed (get_or w part_word 0) w

-- the rules of that part, from the words w to w'
abbrev pub Obeys : (w w' : List ℕ) → (kind arg : ℕ) → Answer → Type 0
Obeys w w' kind arg answer =
    Leaves (get_or w part_word 0) w' answer (stepped (part_of (get_or w part_word 0)) (state_in (part_of (get_or w part_word 0)) w) kind arg)
