-- The line of an answer in a watched log.
use Rattle.std.specs.Prelude.{cond, List, ◌∷◌, ◌++◌, ℕ, eqb}
use Rattle.map.specs.Map.{Part}
use Rattle.device_rules.specs.Device.{Outcome}
use Rattle.text.specs.Text.{hex_text}
use Rattle.text_answers.specs.Answers.{digits_of, unless_refused, newline, shown_text, refused_line}

-- a trace's text, a tab and the pins that are marked; nothing follows a refusal
unfoldable pub marked_line : Part → Outcome → (set : ℕ) → List ℕ
marked_line p o set = (shown_text p o ++ unless_refused o.answer (0x09 ∷ hex_text (digits_of p) set)) ++ newline

-- a refusal's line: `refused`, a tab and the number, of which 13 alone has two digits
unfoldable pub refusal_line : (number : ℕ) → List ℕ
refusal_line number =
    cond (eqb number 13) (0x72 ∷ 0x65 ∷ 0x66 ∷ 0x75 ∷ 0x73 ∷ 0x65 ∷ 0x64 ∷ 0x09 ∷ 0x31 ∷ 0x33 ∷ newline) (refused_line number)
