-- The text of the columns that is kept beside a device's words.
use Rattle.std.specs.Prelude.{◌≡◌, List, ℕ, get_or}
use Rattle.map.specs.Map.{Part, part_of}
use Rattle.registers.specs.Registers.{int_asserted, driven_low, driven_high}
use Rattle.words.specs.Words.{core_in, line_word, configuration_word, output_word, port_kind_word, pin_kind_word}
use Rattle.words_state.specs.Packed.{part_word, Packed}
use Rattle.text_answers.specs.Answers.{Keeps}
use Rattle.trace_columns.specs.declared.Causes.{Causes}
use Rattle.trace_columns.specs.declared.Columns.{Columns}

-- the words that the columns depend on were these when they were told: line, configuration, output, output port kind and pin output kind
abbrev pub Told : (words : List ℕ) → Causes → Type 0
Told w told =
    (told.line ≡ get_or w line_word 0) × (told.configuration ≡ get_or w configuration_word 0) × (told.output ≡ get_or w output_word 0) × (told.port_kind ≡ get_or w port_kind_word 0)
    × (told.pin_kind ≡ get_or w pin_kind_word 0)

-- the text that is kept holds the columns of the device in the words
abbrev pub KeepsOf : Part → (words kept : List ℕ) → Type 0
KeepsOf p w kept = Keeps p kept (int_asserted p (core_in p w)) (driven_low p (core_in p w)) (driven_high p (core_in p w))

-- the text that is kept has the columns of every device of the words' part that has the words that were told
abbrev pub Fresh : (words : List ℕ) → Columns → Type 0
Fresh words c =
    (w : List ℕ) → Packed (get_or words part_word 0) w → Told w c.told → KeepsOf (part_of (get_or words part_word 0)) w c.text
