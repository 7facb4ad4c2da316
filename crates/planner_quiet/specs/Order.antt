-- What a list of writes must do, and when no list does it.
use Rattle.std.specs.Prelude.{Bool, true, ◌&&◌, List, ◌⊎◌, ◌≡◌, ℕ, suc, ◌^◌, ◌<◌, get_or, length}
use Rattle.bits.specs.Bits.{some, differs}
use Rattle.pins.specs.Pin.{is_high}
use Rattle.planner_quiet.specs.Settings.{Shape, Settings, PinBits, bits_of, drive_in, drive_of, Write, place_of, stored, run, after, nth}

-- Well-formed settings: a byte for each register, with no bit that does not exist.
pub record Sound (p : Shape) (s : Settings) : Type 0 where
  pub whole : length s ≡ length p.registers
  pub fits : (i : ℕ) → i < length p.registers → get_or s i 0 < 2 ^ p.room i

-- Write i of the list is a byte to one of the registers, and changes it.
pub record Good (p : Shape) (start : Settings) (ws : List Write) (i : ℕ) : Type 0 where
  pub known : place_of p (nth ws i) < length p.registers
  pub byte : (nth ws i).value < 256
  pub changes : get_or (after p start ws i) (place_of p (nth ws i)) 0 ≡ stored p (place_of p (nth ws i)) (nth ws i).value → ⊥

-- What pin j of port k does along the list. After each prefix its drive is that of the start or of the goal;
-- two moments at which it changes are one; and an input at both ends is always one.
pub record Calm (p : Shape) (start goal : Settings) (ws : List Write) (k j : ℕ) : Type 0 where
  pub either : (i : ℕ) → (drive_of p (after p start ws i) k j ≡ drive_of p start k j) ⊎ (drive_of p (after p start ws i) k j ≡ drive_of p goal k j)
  pub once : (a b : ℕ)
      → (drive_of p (after p start ws a) k j ≡ drive_of p (after p start ws (suc a)) k j → ⊥)
      → (drive_of p (after p start ws b) k j ≡ drive_of p (after p start ws (suc b)) k j → ⊥)
      → a ≡ b
  pub input : (bits_of p start k j).configuration ≡ true → (bits_of p goal k j).configuration ≡ true → (i : ℕ) → (bits_of p (after p start ws i) k j).configuration ≡ true

-- The writes lead from the start to the goal, each changes its register, and no pin twitches.
pub record Orderly (p : Shape) (start goal : Settings) (ws : List Write) : Type 0 where
  pub reached : run p start ws ≡ goal
  pub good : (i : ℕ) → i < length ws → Good p start ws i
  pub calm : (k j : ℕ) → k < p.ports → j < p.width k → Calm p start goal ws k j

-- A pin that is driven high at both ends, while its port's kind differs.
abbrev pub stuck : (s g : PinBits) → Bool
stuck s g = is_high (drive_in s) && is_high (drive_in g) && differs s.port_kind g.port_kind

-- There is such a pin: the planner refuses.
abbrev pub blocked : Shape → (start goal : Settings) → Bool
blocked p start goal = some p.ports (λ k. some (p.width k) (λ j. stuck (bits_of p start k j) (bits_of p goal k j)))
