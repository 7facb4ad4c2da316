-- The state as words of 64 bits: a pin set for a group of one bit a pin, two for a group of two bits a pin; and the register file that they stand for.
use Rattle.std.specs.Prelude.{◌≡◌, Bool, false, cond, ◌&&◌, ◌||◌, List, [], ◌∷◌, ℕ, ◌+◌, ◌-◌, ◌/◌, ◌%◌, ◌^◌, ◌<◌, leb, ltb, eqb, length, get_or, set}
use Rattle.std.specs.Int.Bits.{bit_or}
use Rattle.bits.specs.Bits.{bit, tabulate, without}
use Rattle.pins.specs.Pin.{source}
use Rattle.pins.specs.AllPins.{pin_at}
use Rattle.pins.specs.OnePin.{Registers, OnePin, registers}
use Rattle.pins.specs.declared.Sets.{Sets}
use Rattle.ports.specs.Ports.{byte_of}
use Rattle.map.specs.Map.{Part, Group, part_of, group_in, kind_at, stored, kept_in, entries}
use Rattle.registers.specs.Registers.{Core, core, kept_as}
use Rattle.registers.specs.Interrupt.{Interrupt, interrupt}

-- ---- the words by their numbers. The pins: level 0, reference 1, held 2, edge 3. Then the stored groups. From 19 on what is neither, status set and line first: 28 in all.
abbrev pub configuration_word : ℕ
configuration_word = 4

abbrev pub latch_word : ℕ
latch_word = 5

abbrev pub mask_word : ℕ
mask_word = 6

-- a bit a port
abbrev pub port_kind_word : ℕ
port_kind_word = 7

abbrev pub rising_word : ℕ
rising_word = 8

abbrev pub falling_word : ℕ
falling_word = 9

abbrev pub output_word : ℕ
output_word = 10

abbrev pub polarity_word : ℕ
polarity_word = 11

abbrev pub pin_kind_word : ℕ
pin_kind_word = 12

-- drive strength: the low bits of its fields here, the high bits in the next
abbrev pub strength_word : ℕ
strength_word = 13

abbrev pub pull_enable_word : ℕ
pull_enable_word = 15

abbrev pub pull_select_word : ℕ
pull_select_word = 16

abbrev pub debounce_enable_word : ℕ
debounce_enable_word = 17

abbrev pub debounce_count_word : ℕ
debounce_count_word = 18

-- what is kept of the interrupt: the status set, and INT's level
abbrev pub status_word : ℕ
status_word = 19

abbrev pub line_word : ℕ
line_word = 20

-- the word of each group, in the order of a part's groups, which is the same for both parts; 0 where nothing is stored
abbrev pub slots : List ℕ
slots =
    0 ∷ output_word ∷ polarity_word ∷ configuration_word ∷ strength_word ∷ latch_word ∷ pull_enable_word ∷ pull_select_word ∷ mask_word
    ∷ 0 ∷ port_kind_word ∷ rising_word ∷ 0 ∷ 0 ∷ pin_kind_word ∷ debounce_enable_word ∷ debounce_count_word ∷ []

abbrev pub slot_in : List Group → List ℕ → ℕ → ℕ
slot_in [] ss n = 0
slot_in (g ∷ gs) [] n = 0
slot_in (g ∷ gs) (s ∷ ss) n = cond (leb g.first n && leb n g.last) s (slot_in gs ss n)

-- the word of register n
unfoldable pub slot_at : Part → ℕ → ℕ
slot_at p n = slot_in p.groups slots n

-- which byte of its group register n is
unfoldable pub digit_at : Part → ℕ → ℕ
digit_at p n = n - (group_in p.groups n).first

-- ---- the register file
-- kept in two words: even bits in the first, odd bits in the second
abbrev pub paired : ℕ → Bool
paired s = eqb s rising_word || eqb s strength_word

-- bit m of what is kept in word s, or in the two words from s on
unfoldable pub held_bit : List ℕ → (s m : ℕ) → Bool
held_bit w s m = cond (paired s) (bit (get_or w (s + m % 2) 0) (m / 2)) (bit (get_or w s 0) m)

-- the byte that register n holds
unfoldable pub entry_of : Part → List ℕ → ℕ → ℕ
entry_of p w n = cond (stored (kind_at p n)) (byte_of (digit_at p n) (held_bit w (slot_at p n))) 0

-- the register file that the words stand for
unfoldable pub file_of : Part → List ℕ → List ℕ
file_of p w = entries (entry_of p w) 0 128

-- the file after v is stored at register n
abbrev pub stored_in : Part → List ℕ → (n v : ℕ) → List ℕ
stored_in p w n v = cond (stored (kind_at p n)) (set (file_of p w) n (kept_in p n (kept_as p (kind_at p n) v))) (file_of p w)

-- ---- the pins
abbrev pub sets_in : List ℕ → Sets
sets_in w = record { level = get_or w 0 0; reference = get_or w 1 0; held = get_or w 2 0; edge = get_or w 3 0 }

abbrev pub with_sets : List ℕ → Sets → List ℕ
with_sets w x = set (set (set (set w 0 x.level) 1 x.reference) 2 x.held) 3 x.edge

-- registers and pins
abbrev pub core_in : Part → List ℕ → Core
core_in p w = core (file_of p w) (sets_in w)

-- ---- what is kept of the interrupt
abbrev pub interrupt_in : List ℕ → Interrupt
interrupt_in w = interrupt (get_or w status_word 0) (get_or w line_word 0)

abbrev pub with_interrupt : List ℕ → Interrupt → List ℕ
with_interrupt w kept = set (set w status_word kept.status) line_word kept.line

-- ---- one pin
-- what the words say of pin i: the same for both parts
abbrev pub words_at : List ℕ → ℕ → Registers
words_at w i =
    registers
    (source (bit (get_or w configuration_word 0) i) (bit (get_or w mask_word 0) i) (bit (get_or w latch_word 0) i) (bit (get_or w rising_word 0) i) (bit (get_or w falling_word 0) i))
    (bit (get_or w output_word 0) i)
    (bit (get_or w polarity_word 0) i)
    (bit (get_or w port_kind_word 0) (i / 8))
    (bit (get_or w pin_kind_word 0) i)

abbrev pub pin_in : List ℕ → ℕ → OnePin
pin_in w i = record { registers = words_at w i; pin = pin_at (sets_in w) i }

-- ---- no bit that does not exist is set
abbrev pub wide_in : List Group → List ℕ → ℕ → ℕ
wide_in [] ss s = 0
wide_in (g ∷ gs) [] s = 0
wide_in (g ∷ gs) (t ∷ ss) s = cond (eqb t s) g.bits (wide_in gs ss s)

-- how many bits of word s exist: of the pins' words and of a pair's one a pin, of another as many as its group has
unfoldable pub wide_of : Part → ℕ → ℕ
wide_of p s = cond (ltb s 4 || (paired s || (eqb s falling_word || eqb s (strength_word + 1)))) p.width (wide_in p.groups slots s)

-- words of which those of registers and pins fit
pub record Fit (p : Part) (w : List ℕ) : Type 0 where
  pub full : length w ≡ 28
  pub clear : (s i : ℕ) → s < 19 → ltb i (wide_of p s) ≡ false → bit (get_or w s 0) i ≡ false

-- levels of the pins of a part that the words fit
pub record PinLevels (new : ℕ) (w : List ℕ) : Type 0 where
  pub part : ℕ
  pub small : new < 2 ^ (part_of part).width
  pub fit : Fit (part_of part) w

-- what a function on lent words promises: they hold these registers and pins then, they fit, and the other words stay
pub record Holds (p : Part) (w w' : List ℕ) (after : Core) : Type 0 where
  pub core : core_in p w' ≡ after
  pub fit : Fit p w'
  pub rest : (s : ℕ) → 18 < s → get_or w' s 0 ≡ get_or w s 0

-- the word with the bits of here replaced by those of on, which are among them: the code's form
abbrev pub merged : (word here on : ℕ) → ℕ
merged word here on = bit_or (without word here) on

abbrev pub merged_at : List ℕ → (s here on : ℕ) → List ℕ
merged_at w s here on = set w s (merged (get_or w s 0) here on)

-- in two words: the low bits of the fields in one, the high bits in the next
abbrev pub merged_pair : List ℕ → (s here low high : ℕ) → List ℕ
merged_pair w s here low high = merged_at (merged_at w s here low) (s + 1) here high

-- a byte whose even bits are those of lo, whose odd bits those of hi
abbrev pub zipped : (lo hi : ℕ) → ℕ
zipped lo hi = tabulate 8 (λ j. bit (cond (eqb (j % 2) 0) lo hi) (j / 2))
