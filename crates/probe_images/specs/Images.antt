-- State images as text: what a line of a probe program says, and the line that answers it, for either part. Lines are given without their newline.
use Rattle.std.specs.Prelude.{cond, List, ℕ}
use Rattle.pins.specs.declared.Sets.{Sets}
use Rattle.map.specs.Map.{Part}
use Rattle.registers.specs.Registers.{core}
use Rattle.registers.specs.Interrupt.{interrupt}
use Rattle.device_rules.specs.Device.{State, identity, state}
use Rattle.device_rules.specs.Refusals.{stepped}
use Rattle.text_answers.specs.Answers.{refused_line}
use Rattle.probe_fields.specs.Fields.{readable, bytes_at, number_in}
use Rattle.probe_answers.specs.Answers.{probe_line}

-- ---- what a readable line says
abbrev pub sets_in : (line : List ℕ) → Sets
sets_in line = record { level = number_in line 1; reference = number_in line 2; held = number_in line 3; edge = number_in line 4 }

abbrev pub image_in : (line : List ℕ) → State
image_in line =
    state (core (bytes_at line 0 128) (sets_in line)) (interrupt (number_in line 8) (number_in line 9)) (number_in line 5) (number_in line 10) (number_in line 6) (number_in line 7)
    (identity (number_in line 11) (number_in line 12))

abbrev pub kind_in : (line : List ℕ) → ℕ
kind_in line = number_in line 13

abbrev pub argument_in : (line : List ℕ) → ℕ
argument_in line = number_in line 14

-- ---- the answer
-- One step of the part on the image that a line says; refusal 7 where it is not readable.
unfoldable pub probe_text : Part → (line : List ℕ) → List ℕ
probe_text p line = cond (readable line) (probe_line p (stepped p (image_in line) (kind_in line) (argument_in line))) (refused_line 7)
