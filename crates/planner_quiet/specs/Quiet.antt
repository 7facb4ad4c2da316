-- What a list of writes must do on the device: reach the goal, and no pin twitches on the way.
use Rattle.std.specs.Prelude.{Bool, true, List, [], ◌∷◌, ◌⊎◌, ◌≡◌, ℕ, suc, ◌/◌, ◌%◌, ◌<◌, get_or, length, take}
use Rattle.pins.specs.Pin.{Drive}
use Rattle.pins.specs.AllPins.{Within}
use Rattle.pins.specs.OnePin.{drive_of, status_of}
use Rattle.map.specs.Map.{Part, file_fits}
use Rattle.registers.specs.Registers.{Core, one_pin, written}
use Rattle.planner_quiet.specs.Settings.{shape_of, registers_of, Settings, PinBits, bits_of, drive_in, Write, place, nth}

-- what the registers of a list hold
abbrev pub read_all : List ℕ → List ℕ → List ℕ
read_all file [] = []
read_all file (n ∷ ns) = get_or file n 0 ∷ read_all file ns

-- the part's setting: what its registers of direction, output level and output kind hold
abbrev pub settings_of : Part → Core → Settings
settings_of p s = read_all s.file (registers_of p)

-- a write is the device's own register write
abbrev pub writes : Part → Core → List Write → Core
writes p s [] = s
writes p s (w ∷ ws) = writes p (written p s w.register w.value) ws

-- after the first t of them
abbrev pub after_first : Part → Core → List Write → ℕ → Core
after_first p s ws t = writes p s (take t ws)

-- one of the setting's registers
abbrev pub IsPlanned : Part → ℕ → Type 0
IsPlanned p n = place (registers_of p) n < length (registers_of p)

-- every write of the list is a byte to one of the setting's registers
abbrev pub Listed : Part → List Write → Type 0
Listed p [] = Unit {0}
Listed p (w ∷ ws) = IsPlanned p w.register × (w.value < 256) × Listed p ws

-- pin i on the device, and by settings alone
abbrev pub drive_at : Part → Core → ℕ → Drive
drive_at p s i = drive_of (one_pin p s i)

abbrev pub input_at : Part → Core → ℕ → Bool
input_at p s i = (one_pin p s i).registers.source.configuration

abbrev pub status_at : Part → Core → ℕ → Bool
status_at p s i = status_of (one_pin p s i)

abbrev pub bits_at : Part → Settings → ℕ → PinBits
bits_at p g i = bits_of (shape_of p) g (i / 8) (i % 8)

-- Pin i along a course of moments, of which moment 0 is the start. At every moment its drive is its start's or its goal's; two moments at
-- which it changes are one; and an input at both ends stays one, its status bit what it was at the start.
pub record Still (p : Part) (course : ℕ → Core) (goal : Settings) (i : ℕ) : Type 0 where
  pub either : (t : ℕ) → (drive_at p (course t) i ≡ drive_at p (course 0) i) ⊎ (drive_at p (course t) i ≡ drive_in (bits_at p goal i))
  pub once : (a b : ℕ)
      → (drive_at p (course a) i ≡ drive_at p (course (suc a)) i → ⊥)
      → (drive_at p (course b) i ≡ drive_at p (course (suc b)) i → ⊥)
      → a ≡ b
  pub input : input_at p (course 0) i ≡ true → (bits_at p goal i).configuration ≡ true
      → (t : ℕ) → (input_at p (course t) i ≡ true) × (status_at p (course t) i ≡ status_at p (course 0) i)

-- on the device whose registers and pins are s: the goal is reached, and every pin is still from write to write
pub record QuietOn (p : Part) (s : Core) (goal : Settings) (ws : List Write) : Type 0 where
  pub reached : settings_of p (writes p s ws) ≡ goal
  pub still : (i : ℕ) → i < p.width → Still p (after_first p s ws) goal i

-- write t changes its register: the register holds something else after it
abbrev pub Changing : Part → Core → List Write → Type 0
Changing p s ws =
    (t : ℕ) → t < length ws
    → get_or (after_first p s ws t).file (nth ws t).register 0 ≡ get_or (after_first p s ws (suc t)).file (nth ws t).register 0 → ⊥

-- no other register is touched
abbrev pub Sparing : Part → Core → List Write → Type 0
Sparing p s ws = (n : ℕ) → (IsPlanned p n → ⊥) → (t : ℕ) → get_or (after_first p s ws t).file n 0 ≡ get_or s.file n 0

-- registers and pins that a well-formed device may have
pub record Formed (p : Part) (s : Core) : Type 0 where
  pub full : length s.file ≡ 128
  pub fits : file_fits p s.file ≡ true
  pub within : Within p.width s.sets

-- on every device that stands at the start, whatever the rest of its state
abbrev pub OnAll : Part → (start : Settings) → (Core → Type 0) → Type 0
OnAll p start P = (s : Core) → Formed p s → settings_of p s ≡ start → P s

abbrev pub Quiet : Part → (start goal : Settings) → List Write → Type 0
Quiet p start goal ws = OnAll p start (λ s. QuietOn p s goal ws)
