-- The text that says an answer, and the line that is this text and a newline: pin sets have the digits of the part.
use Rattle.std.specs.Prelude.{◌≡◌, Bool, cond, List, [], ◌∷◌, ◌++◌, ℕ, ◌+◌, ◌*◌, ◌/◌, ◌%◌, take}
use Rattle.map.specs.Map.{Part}
use Rattle.registers.specs.Registers.{driven_low, driven_high, int_asserted}
use Rattle.device_rules.specs.Device.{Outcome}
use Rattle.device_rules.specs.declared.Answer.{Answer}
use Rattle.device_rules.specs.declared.Answer.TheVariants.{Nothing, Ack, Nak, Byte, Refused}
use Rattle.text.specs.Text.{digit_byte, hex_text}

-- `-`, `ack`, `nak`, two hex digits; or `refused`, a tab and the number
unfoldable pub answer_word : Answer → List ℕ
answer_word Nothing = 0x2d ∷ []
answer_word Ack = 0x61 ∷ 0x63 ∷ 0x6b ∷ []
answer_word Nak = 0x6e ∷ 0x61 ∷ 0x6b ∷ []
answer_word (Byte b) = hex_text 2 b
answer_word (Refused n) = 0x72 ∷ 0x65 ∷ 0x66 ∷ 0x75 ∷ 0x73 ∷ 0x65 ∷ 0x64 ∷ 0x09 ∷ digit_byte (n % 16) ∷ []

-- how many hex digits a pin set has: six, and nine of the sister
abbrev pub digits_of : Part → ℕ
digits_of p = (p.width + 3) / 4

-- INT's level, 0 where it is asserted, pins driven low and pins driven high, tabs between them
unfoldable pub columns : Part → (int : Bool) → (low high : ℕ) → List ℕ
columns p int low high = cond int 0x30 0x31 ∷ 0x09 ∷ hex_text (digits_of p) low ++ (0x09 ∷ hex_text (digits_of p) high)

-- what follows an answer's word; nothing follows a refusal's
abbrev pub unless_refused : Answer → (rest : List ℕ) → List ℕ
unless_refused Nothing rest = rest
unless_refused Ack rest = rest
unless_refused Nak rest = rest
unless_refused (Byte b) rest = rest
unless_refused (Refused n) rest = []

unfoldable pub answer_text : Part → Answer → (int : Bool) → (low high : ℕ) → List ℕ
answer_text p answer int low high = answer_word answer ++ unless_refused answer (0x09 ∷ columns p int low high)

abbrev pub newline : List ℕ
newline = 0x0a ∷ []

unfoldable pub answer_line : Part → Answer → (int : Bool) → (low high : ℕ) → List ℕ
answer_line p answer int low high = answer_text p answer int low high ++ newline

-- how much of a text that is kept the columns and the newline take, and that it holds them
abbrev pub kept_of : Part → (text : List ℕ) → List ℕ
kept_of p text = take (2 * digits_of p + 4) text

abbrev pub Keeps : Part → (text : List ℕ) → (int : Bool) → (low high : ℕ) → Type 0
Keeps p text int low high = kept_of p text ≡ columns p int low high ++ newline

-- an event's text and line: its answer, INT and the pins driven, as they are after it
unfoldable pub shown_text : Part → Outcome → List ℕ
shown_text p o =
    answer_text p o.answer (int_asserted p o.after.regs) (driven_low p o.after.regs) (driven_high p o.after.regs)

unfoldable pub shown_line : Part → Outcome → List ℕ
shown_line p o = shown_text p o ++ newline

abbrev pub refused_line : (number : ℕ) → List ℕ
refused_line number = answer_word (Refused number) ++ newline
