-- What a line of a log says, given its bytes without the newline and the part of the device that there is.
use Rattle.std.specs.Prelude.{Option, Some, None, ◌≡◌, cond, List, [], ◌∷◌, ℕ, ◌-◌, ◌^◌, ◌<◌, ◌≤◌, ltb, length, take, drop}
use Rattle.map.specs.Map.{Part, part_of}
use Rattle.text.specs.Text.{starts_with, is_word, field_of}
use Rattle.text_answers.specs.Answers.{digits_of}
use Rattle.trace_lines.specs.declared.Line.{Line}
use Rattle.trace_lines.specs.declared.Line.TheVariants.{Device, Event}
use Rattle.trace_lines.specs.declared.Made.{Made}

-- the words; those that a field follows with their tab
abbrev pub start : List ℕ
start = 0x73 ∷ 0x74 ∷ 0x61 ∷ 0x72 ∷ 0x74 ∷ []

abbrev pub stop : List ℕ
stop = 0x73 ∷ 0x74 ∷ 0x6f ∷ 0x70 ∷ []

abbrev pub reset : List ℕ
reset = 0x72 ∷ 0x65 ∷ 0x73 ∷ 0x65 ∷ 0x74 ∷ []

abbrev pub tab : List ℕ
tab = 0x09 ∷ []

abbrev pub byte : List ℕ
byte = 0x62 ∷ 0x79 ∷ 0x74 ∷ 0x65 ∷ tab

abbrev pub fetch : List ℕ
fetch = 0x66 ∷ 0x65 ∷ 0x74 ∷ 0x63 ∷ 0x68 ∷ tab

abbrev pub pins : List ℕ
pins = 0x70 ∷ 0x69 ∷ 0x6e ∷ 0x73 ∷ tab

abbrev pub device : List ℕ
device = 0x64 ∷ 0x65 ∷ 0x76 ∷ 0x69 ∷ 0x63 ∷ 0x65 ∷ tab

abbrev pub device34 : List ℕ
device34 = 0x64 ∷ 0x65 ∷ 0x76 ∷ 0x69 ∷ 0x63 ∷ 0x65 ∷ 0x33 ∷ 0x34 ∷ tab

-- an event whose argument is the digits' number
abbrev pub event_with : (kind : ℕ) → Option ℕ → Option Line
event_with kind (Some arg) = Some (Event kind arg)
event_with kind None = None

abbrev pub device_with : (part : ℕ) → (choice levels : Option ℕ) → Option Made
device_with part (Some choice) (Some levels) = Some (record { part = part; choice = choice; levels = levels })
device_with part (Some choice) None = None
device_with part None levels = None

-- pin levels: six digits, nine of the sister, and no pin that does not exist
abbrev pub levels_of : Part → List ℕ → Option ℕ
levels_of p s = field_of (digits_of p) (2 ^ p.width - 1) s

-- one digit for a choice, 3 or less; a tab; levels
unfoldable pub device_of : (part : ℕ) → List ℕ → Option Made
device_of part s = cond (starts_with tab (drop 1 s)) (device_with part (field_of 1 3 (take 1 s)) (levels_of (part_of part) (drop 2 s))) None

-- a line that makes a device: of the 24-pin part, or of its sister
unfoldable pub devices_of : List ℕ → Option Made
devices_of s = cond (starts_with device s) (device_of 0 (drop 7 s)) (cond (starts_with device34 s) (device_of 1 (drop 9 s)) None)

-- the line of a device, where there is one
abbrev pub made_line : Option Made → Option Line
made_line (Some made) = Some (Device made)
made_line None = None

-- a line with fields: two digits for a byte, 0 or 1 for a fetch, levels of the device's part
unfoldable pub fields_of : Part → List ℕ → Option Line
fields_of p s =
    cond (starts_with byte s) (event_with 2 (field_of 2 0xff (drop 5 s)))
    (cond (starts_with fetch s) (event_with 3 (field_of 1 1 (drop 6 s))) (cond (starts_with pins s) (event_with 4 (levels_of p (drop 5 s))) (made_line (devices_of s))))

-- None: a line over 32 bytes, and anything but these.
unfoldable pub line_of : Part → List ℕ → Option Line
line_of p s =
    cond (ltb 32 (length s)) None
    (cond (is_word start s) (Some (Event 0 0)) (cond (is_word stop s) (Some (Event 1 0)) (cond (is_word reset s) (Some (Event 5 0)) (fields_of p s))))

-- what an argument of the kind may be at most, where the kind has one
abbrev pub Taken : Part → (kind arg : ℕ) → Type 0
Taken p kind arg = (kind ≤ 5) × (kind ≡ 2 → arg ≤ 0xff) × (kind ≡ 3 → arg ≤ 1) × (kind ≡ 4 → arg < 2 ^ p.width)

-- if it is a device's line, the device can be made; if it is an event's, the event is not refused for its kind or its argument
pub record Means (p : Part) (l : Option Line) : Type 0 where
  pub makes : (m : Made) → l ≡ Some (Device m) → (m.part < 2) × (m.choice ≤ 3) × (m.levels < 2 ^ (part_of m.part).width)
  pub takes : (kind arg : ℕ) → l ≡ Some (Event kind arg) → Taken p kind arg
