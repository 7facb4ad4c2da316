-- What a register number means to the engine, as one number, its row: computed from the part's map.
use Rattle.std.specs.Prelude.{◌≡◌, false, cond, List, ℕ, ◌+◌, ◌-◌, ◌*◌, ◌/◌, ◌^◌, ◌<◌, eqb}
use Rattle.std.specs.Int.Bits.{bit_and}
use Rattle.map.specs.Map.{Part, kind_at, code, reserved, next, room_at, part_of}
use Rattle.words.specs.Words.{slot_at, digit_at, paired, strength_word, Fit}

-- what writing and reading it does: its kind's number; 14 for drive strength, which is stored like the others but in two words
abbrev pub rule_at : Part → ℕ → ℕ
rule_at p n = cond (eqb (slot_at p n) strength_word) 14 (code (kind_at p n))

-- where its lowest bit stands in its word
abbrev pub shift_at : Part → ℕ → ℕ
shift_at p n = cond (paired (slot_at p n)) (4 * digit_at p n) (8 * digit_at p n)

-- From the lowest bit on: its rule in 4 bits, its word in 5, its shift in 6, its successor in its group in 7; from bit 24 on a 1 for each bit of it that exists.
-- A reserved number's row is 0.
unfoldable pub row_at : Part → ℕ → ℕ
row_at p n =
    cond (reserved p n) 0
    (rule_at p n + slot_at p n * 2 ^ 4 + shift_at p n * 2 ^ 9 + next p n * 2 ^ 15 + (2 ^ room_at p n - 1) * 2 ^ 24)

-- the word that a row names, of whatever number it is
abbrev pub word_in : ℕ → ℕ
word_in row = bit_and (row / 2 ^ 4) 31

-- the row is that of some number below 128, reserved or not, of a part that the words fit
pub record Numbered (row : ℕ) (w : List ℕ) : Type 0 where
  pub part : ℕ
  pub number : ℕ
  pub small : number < 128
  pub row_is : row ≡ row_at (part_of part) number
  pub fit : Fit (part_of part) w

-- the row is that of a known register, one whose number is not reserved, of a part that the words fit
pub record Known (row : ℕ) (w : List ℕ) : Type 0 where
  pub part : ℕ
  pub number : ℕ
  pub known : reserved (part_of part) number ≡ false
  pub row_is : row ≡ row_at (part_of part) number
  pub fit : Fit (part_of part) w
